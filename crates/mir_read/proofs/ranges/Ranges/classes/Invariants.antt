use Rattle.std.proofs.Common.{◌≡◌, take, map}
use Rattle.mir_read.specs.Ranges.{class_in}
use Rattle.mir_read.proofs.ranges.Ranges.classes.Given as goal

abbrev pub invariant-loop-g : goal.invariant-loop-g
invariant-loop-g l = l.made ≡ map class_in (take l.g-index l.self.given)
