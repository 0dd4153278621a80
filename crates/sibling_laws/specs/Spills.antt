-- Spills keep siblings apart.
use Rattle.std.specs.Prelude.{◌<◌, ℕ, length, List}
use Rattle.target_base.specs.declared.types.Target.{Target}
use Rattle.mir_func.specs.Value.{Function}
use Rattle.lowering_laws.specs.Shapes.{IsLowered}
use Rattle.spiller.specs.Slots.{Slots, own_slot}
use Rattle.spiller.specs.Spilled.{IsSpilled}
use Rattle.clear_laws.specs.Spills.{SpillPoints}
use Rattle.sibling_laws.specs.Siblings.{AreSiblingsApart, KnowsOriginals}

-- A spill keeps siblings apart, where lanes are live or occupied behind it at most as before. Tinies are their own originals.
abbrev pub SpillKeepsSiblings : Type 0
SpillKeepsSiblings =
    (t : Target) (f g : Function) (slots new : Slots) (v : ℕ) (made : List (ℕ × ℕ)) → IsLowered t g → v < length f.classes → IsSpilled t f slots v g new made
    → SpillPoints t f v (own_slot slots v) g → KnowsOriginals f slots → AreSiblingsApart t f slots → KnowsOriginals g new × AreSiblingsApart t g new
