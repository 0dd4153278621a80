use Rattle.std.proofs.Common.{refl, arith}
use Rattle.std.specs.Prelude.{nat_eq}
use Rattle.live_lanes.specs.declared.row.LaneUse.{LaneUse}
use Rattle.live_lanes.proofs.Touching.{meets-none, meets-element, meets-all}
use Rattle.live_lanes.proofs.ask.touch.TouchList.meet_readings.Goals as goal

pub readings-init : goal.readings-init
readings-init c = meets-none c.args.slots.now c.args.self.now _ (λ x. refl)

pub readings-preserved : goal.readings-preserved
readings-preserved c = meets-element c.args.slots.now c.args.self.now c.readings.self c.meet.new.self (λ x (r : LaneUse). nat_eq r.id x) c.args.readings.now c.readings.reading-index _ (omega arith) c.readings.invariant c.in_ok-meet.ensures

pub returns : goal.returns
returns c = meets-all c.args.slots.now c.args.self.now c.readings.self (λ x (r : LaneUse). nat_eq r.id x) c.args.readings.now c.readings.reading-index (omega arith) c.readings.invariant
