use Rattle.std.proofs.Common.{[], take}
use Rattle.live_lanes.specs.Touching.{AreTouched}
use Rattle.spiller.specs.Listed.{Lists, keyed_by}
use Rattle.spiller.specs.MaySpill.{MaySpill}
use Rattle.spiller.proofs.remat.readings_of.Given as goal

abbrev pub invariant-touched : goal.invariant-touched
invariant-touched l = MaySpill l.view.target.now l.view.live.now.func l.view.live.now.table l.view.v → AreTouched l.view.live.now.table l.view.v l.touched → Lists l.view l.definitions (keyed_by l.view (take l.id-index l.touched)) [] l.readings.items
