-- Splits of ranges without registers leave no clashes.
use Rattle.std.specs.Prelude.{◌≡◌, ℕ, List, None}
use Rattle.target_base.specs.declared.types.Target.{Target}
use Rattle.mir_func.specs.Value.{Function}
use Rattle.live_lanes.specs.declared.ask.labels.Mark.{Mark}
use Rattle.lowering_laws.specs.Shapes.{IsLowered}
use Rattle.rewriter.specs.Physical.{Assignment, register_of}
use Rattle.split_kit.specs.Split.{Split}
use Rattle.split_laws.specs.Laws.{LabelsAgree}
use Rattle.clear_laws.specs.Apart.{Extends, IsApart, KeepsPoints}

-- Where a range is split, other ranges and units are live and occupied at most as they were.
abbrev pub SplitKeepsPoints : Type 0
SplitKeepsPoints = (t : Target) (f g : Function) (v : ℕ) (ms : List Mark) → IsLowered t f → LabelsAgree t f v ms → Split t f v ms g → KeepsPoints t f v g

-- Where the range has no register and its parts get none, there are no clashes then.
abbrev pub SplitKeepsApart : Type 0
SplitKeepsApart =
    (t : Target) (f g : Function) (v : ℕ) (ms : List Mark) (rs new : Assignment) → IsLowered t f → LabelsAgree t f v ms → Split t f v ms g
    → register_of rs v ≡ None → Extends f rs new → IsApart t f rs → IsApart t g new
