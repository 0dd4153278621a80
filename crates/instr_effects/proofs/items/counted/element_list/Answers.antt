use Rattle.std.proofs.Common.{arith, rules}
use Rattle.std.proofs.lemmas.Grind.{common_steps}
use Rattle.instr_effects.proofs.ItemLemmas.Lists.{pick_in, pick_past}
use Rattle.instr_effects.proofs.items.counted.element_list.Goals as goal

pub returns-then-k-items : goal.returns-then-k-items
returns-then-k-items g c = let e = pick_past c.args.k c.args.items.now (omega arith) in rw e (search rules)

pub returns : goal.returns
returns g c = let e = pick_in c.args.k c.args.items.now c.index-items-k.result (omega arith) in rw e (grind (arith, common_steps))
