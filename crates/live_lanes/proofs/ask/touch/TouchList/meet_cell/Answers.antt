use Rattle.std.proofs.Common.{◌∙◌, ap}
use Rattle.std.specs.Prelude.{◌||◌}
use Rattle.std.specs.List.{list_any}
use Rattle.std.proofs.lemmas.Result.{on_ok_weaker}
use Rattle.live_lanes.specs.Touching.{names_cell, names_segment, reads_in}
use Rattle.live_lanes.proofs.Touching.{meets-more}
use Rattle.live_lanes.proofs.ask.touch.TouchList.meet_cell.Goals as goal

pub returns : goal.returns
returns c = on_ok_weaker c.meet_segments.result (λ h. meets-more c.args.slots.now c.args.self.now c.meet_readings.new.self c.meet_segments.new.self (λ x. reads_in x c.as_slice.result.now) (λ x. list_any (names_segment x) c.as_slice-2.result.now) (λ x. names_cell x c.args.cell.now) c.in_ok-meet_readings.ensures h (λ x. ap (λ rs. reads_in x rs || list_any (names_segment x) c.as_slice-2.result.now) c.as_slice.ensures.value ∙ ap (λ ss. reads_in x c.args.cell.now.first.readings.items || list_any (names_segment x) ss) c.as_slice-2.ensures.value)) c.meet_segments.ensures
