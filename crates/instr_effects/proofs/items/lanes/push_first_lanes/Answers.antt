use Rattle.std.proofs.Common.{arith}
use Rattle.std.proofs.lemmas.Grind.{common_steps}
use Rattle.instr_effects.proofs.ItemLemmas.Numbers.{numbers_step}
use Rattle.instr_effects.proofs.items.lanes.push_first_lanes.Goals as goal

pub loop-k-preserved : goal.loop-k-preserved
loop-k-preserved c = let e = numbers_step c.loop-k.k c.args.count (omega arith) in grind (arith, common_steps, e)
