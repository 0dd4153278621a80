use Rattle.std.proofs.Common.{arith, sym, subst}
use Rattle.alloc_check.specs.Cells.{TakenTo}
use Rattle.alloc_check.proofs.Celled.{taken-none, taken-more, taken-all}
use Rattle.alloc_check.proofs.needs.take_from_all.Goals as goal

pub loop-i-init : goal.loop-i-init
loop-i-init c =
    subst (TakenTo c.args.slots c.args.writes.now.first.now c.args.writes.now.second.now 0 c.args.cells.now c.args.cells.now) (sym c.new-taken.ensures) (taken-none c.args.slots c.args.writes.now.first.now c.args.writes.now.second.now c.args.cells.now)

pub loop-i-preserved : goal.loop-i-preserved
loop-i-preserved c =
    taken-more c.args.slots c.args.writes.now.first.now c.args.writes.now.second.now c.loop-i.i c.args.cells.now c.loop-i.cells c.loop-i.taken c.get_mut-cell.result.now c.take_from.new.cell c.take_from.new.taken (omega arith) c.get_mut-cell.ensures.value c.loop-i.invariant c.in_ok-take_from.ensures

pub returns : goal.returns
returns c =
    taken-all c.args.slots c.args.writes.now.first.now c.args.writes.now.second.now c.loop-i.i c.args.cells.now c.loop-i.cells c.loop-i.taken (omega (arith, c.loop-i.invariant.same)) c.loop-i.invariant
