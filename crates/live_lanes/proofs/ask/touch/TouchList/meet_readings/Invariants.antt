use Rattle.std.proofs.Common.{take}
use Rattle.live_lanes.specs.Touching.{Meets, reads_in}
use Rattle.live_lanes.proofs.ask.touch.TouchList.meet_readings.Given as goal

abbrev pub invariant-readings : goal.invariant-readings
invariant-readings l = Meets l.slots l.initial.self l.self (λ x. reads_in x (take l.reading-index l.readings))
