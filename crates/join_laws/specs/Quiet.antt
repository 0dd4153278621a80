-- When no value is lost by a join.
use Rattle.target_base.specs.declared.types.Target.{Target}
use Rattle.meaning.specs.Fold.{Quiet}
use Rattle.mir_func.specs.Value.{Function}
use Rattle.mir_meaning.specs.Registers.{is_reserved}
use Rattle.mir_meaning.specs.Points.{points_of}
use Rattle.live_edits.specs.declared.fold.Join.{Join}
use Rattle.live_edits.specs.Folded.{image}

-- No value is lost by a join: at each writing of a lane that isn't a copy from a lane with the same image, no other
-- lane with that image is live behind it or written with it, and for an early-clobber writing none is live before it.
abbrev pub IsQuiet : Target → Function → Join → Type 0
IsQuiet t f j = Quiet (is_reserved t) (points_of t f) (image t j) (points_of t f)
