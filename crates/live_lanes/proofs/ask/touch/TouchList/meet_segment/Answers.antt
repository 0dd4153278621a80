use Rattle.std.proofs.Common.{ap}
use Rattle.std.specs.Prelude.{nat_eq, ◌||◌}
use Rattle.std.proofs.lemmas.Result.{on_ok_weaker}
use Rattle.live_lanes.specs.Touching.{names_segment, reads_in}
use Rattle.live_lanes.proofs.Touching.{meets-more}
use Rattle.live_lanes.proofs.ask.touch.TouchList.meet_segment.Goals as goal

pub returns : goal.returns
returns c = on_ok_weaker c.meet_readings.result (λ h. meets-more c.args.slots.now c.args.self.now c.meet.new.self c.meet_readings.new.self (nat_eq c.args.segment.now.start) (λ x. reads_in x c.as_slice.result.now) (λ x. names_segment x c.args.segment.now) c.in_ok-meet.ensures h (λ x. ap (λ rs. nat_eq c.args.segment.now.start x || reads_in x rs) c.as_slice.ensures.value)) c.meet_readings.ensures
