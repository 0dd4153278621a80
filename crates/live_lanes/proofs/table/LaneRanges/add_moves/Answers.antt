use Rattle.std.proofs.Common.{arith, refl}
use Rattle.live_lanes.specs.Entering.{move_entered}
use Rattle.live_lanes.proofs.Entering.{enters-none, enters-more, enters-all}
use Rattle.live_lanes.proofs.table.LaneRanges.add_moves.Goals as goal

pub writes-init : goal.writes-init
writes-init c = enters-none c.args.self.now.rows.items _ (λ l b v. refl)

pub writes-preserved : goal.writes-preserved
writes-preserved c = enters-more (λ l b. move_entered c.args.block c.args.id l b) c.args.self.now.rows.items c.writes.self.rows.items c.add_move.new.self.rows.items c.args.writes.now c.writes.w-index _ (omega arith) c.writes.invariant c.in_ok-add_move.ensures

pub returns : goal.returns
returns c = enters-all (λ l b. move_entered c.args.block c.args.id l b) c.args.self.now.rows.items c.writes.self.rows.items c.args.writes.now c.writes.w-index (omega arith) c.writes.invariant
