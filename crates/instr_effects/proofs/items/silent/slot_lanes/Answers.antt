use Rattle.std.proofs.Common.{◌≡◌, arith, drop, drop_of_length-le, []}
use Rattle.std.proofs.lemmas.Grind.{common_steps}
use Rattle.instr_effects.proofs.ItemLemmas.Slots.{slots_none}
use Rattle.instr_effects.proofs.items.silent.slot_lanes.Goals as goal

pub returns-then-k-widths : goal.returns-then-k-widths
returns-then-k-widths c =
    let none : drop c.loop-k.k c.args.widths.now ≡ [] = drop_of_length-le c.args.widths.now c.if-k-widths.true in
    let e = slots_none c.args.s (drop c.loop-k.k c.args.lanes.now) in
    let inv = c.loop-k.invariant in
    let i = rw none at inv in
    let j = rw e at i in
    grind (arith, common_steps, j)
