-- What splits and spills keep of the rules of a source that rewriting asks for.
use Rattle.std.specs.Prelude.{ℕ, List}
use Rattle.target_base.specs.declared.types.Target.{Target}
use Rattle.mir_func.specs.Value.{Function}
use Rattle.live_lanes.specs.declared.ask.labels.Mark.{Mark}
use Rattle.lowering_laws.specs.Shapes.{IsLowered}
use Rattle.spiller.specs.Slots.{Slots}
use Rattle.spiller.specs.Spilled.{IsSpilled}
use Rattle.split_kit.specs.Split.{Split}
use Rattle.split_laws.specs.Laws.{LabelsAgree}
use Rattle.valid_laws.specs.Rules.{HasBlockRules, HasStart}

-- a split keeps the rules on blocks, where labels agree on the ways between blocks
abbrev pub SplitKeepsBlocks : Type 0
SplitKeepsBlocks = (t : Target) (f g : Function) (v : ℕ) (ms : List Mark) → LabelsAgree t f v ms → Split t f v ms g → HasBlockRules t f → HasBlockRules t g

-- so does a spill
abbrev pub SpillKeepsBlocks : Type 0
SpillKeepsBlocks =
    (t : Target) (f g : Function) (slots new : Slots) (v : ℕ) (made : List (ℕ × ℕ)) → IsLowered t f → IsSpilled t f slots v g new made → HasBlockRules t f → HasBlockRules t g

-- a split keeps what is asked of the start
abbrev pub SplitKeepsStart : Type 0
SplitKeepsStart = (t : Target) (f g : Function) (v : ℕ) (ms : List Mark) → IsLowered t f → LabelsAgree t f v ms → Split t f v ms g → HasStart t f → HasStart t g
