use Rattle.std.proofs.Common.{arith, take, sym}
use Rattle.std.proofs.lemmas.List.{length-take, get_or-take}
use Rattle.rewriter.proofs.Marked.{ranges_more, ranges_all}
use Rattle.rewriter.proofs.live_units.LiveUnits.mark_ranges.Goals as goal

pub each-init : goal.each-init
each-init c y m = m

pub each-preserved : goal.each-preserved
each-preserved c y m =
    let rs = c.args.registers.now in
    let few = length-take 4294967296 rs in
    c.each.invariant y (ranges_more c.args.live.now.target c.args.live.now.table c.each.v (take 4294967296 rs) _ _ _ _ y (omega (arith, few)) (sym (get_or-take 4294967296 rs c.each.v _ (omega arith))) c.mark_assigned.ensures m)

pub returns : goal.returns
returns c =
    let few = length-take 4294967296 c.args.registers.now in
    ranges_all c.args.live.now.target c.args.live.now.table c.each.v (take 4294967296 c.args.registers.now) _ _ (omega (arith, few)) c.each.invariant
