use Rattle.std.proofs.Common.{take}
use Rattle.std.specs.List.{list_any}
use Rattle.live_lanes.specs.Touching.{Meets, names_segment}
use Rattle.live_lanes.proofs.ask.touch.TouchList.meet_segments.Given as goal

abbrev pub invariant-segments : goal.invariant-segments
invariant-segments l = Meets l.slots l.initial.self l.self (λ x. list_any (names_segment x) (take l.segment-index l.segments))
