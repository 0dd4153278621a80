use Rattle.std.proofs.Common.{refl, arith}
use Rattle.live_lanes.specs.Touching.{names_segment}
use Rattle.live_lanes.proofs.Touching.{meets-none, meets-item, meets-all}
use Rattle.live_lanes.proofs.ask.touch.TouchList.meet_segments.Goals as goal

pub segments-init : goal.segments-init
segments-init c = meets-none c.args.slots.now c.args.self.now _ (λ x. refl)

pub segments-preserved : goal.segments-preserved
segments-preserved c = meets-item c.args.slots.now c.args.self.now c.segments.self c.meet_segment.new.self names_segment c.args.segments.now c.segments.segment-index c.segment-item.result (omega arith) c.segment-item.is c.segments.invariant c.in_ok-meet_segment.ensures

pub returns : goal.returns
returns c = meets-all c.args.slots.now c.args.self.now c.segments.self names_segment c.args.segments.now c.segments.segment-index (omega arith) c.segments.invariant
