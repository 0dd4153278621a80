use Rattle.std.proofs.Common.{◌≡◌, arith, drop, drop_of_length-le, []}
use Rattle.std.proofs.lemmas.Grind.{common_steps}
use Rattle.instr_effects.proofs.ItemLemmas.Lists.{moved_none}
use Rattle.instr_effects.proofs.items.writes.push_moved.Goals as goal

pub returns-then-k-sources : goal.returns-then-k-sources
returns-then-k-sources c =
    let none : drop c.loop-k.k c.args.sources.now ≡ [] = drop_of_length-le c.args.sources.now c.if-k-sources.true in
    let e = moved_none c.args.early (drop c.loop-k.k c.args.lanes.now) in
    let inv = c.loop-k.invariant in
    let i = rw none at inv in
    let j = rw e at i in
    grind (arith, common_steps, j)
