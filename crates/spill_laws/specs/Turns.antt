-- Any number of spills, one after the other.
use Rattle.std.specs.Prelude.{◌≡◌, ◌<◌, ℕ, length, List, [], ◌∷◌}
use Rattle.target_base.specs.declared.types.Target.{Target}
use Rattle.mir_func.specs.Value.{Function}
use Rattle.mir_meaning.specs.declared.Form.TheVariants as forms
use Rattle.mir_meaning.specs.Valid.{IsValid}
use Rattle.live_laws.specs.Effects.Shaped.{AreClasses}
use Rattle.two_address.specs.Lowered.{lowered}
use Rattle.lowering_laws.specs.Shapes.{IsLowered}
use Rattle.spiller.specs.Slots.{Slots}
use Rattle.spiller.specs.Spilled.{IsSpilled}
use Rattle.spill_laws.specs.Laws.{AreLowered}
use Rattle.spill_laws.specs.Named.{HasFixedUndefs}

-- g, with these slots, is f after these ranges are spilled, one after the other
abbrev pub SpilledInTurn : Target → Function → Slots → List ℕ → Function → Slots → Type 0
SpilledInTurn t f slots [] g new = (g ≡ f) × (new ≡ slots)
SpilledInTurn t f slots (v ∷ vs) g new = (h : Function) × (mid : Slots) × (made : List (ℕ × ℕ)) × IsSpilled t f slots v h mid made × SpilledInTurn t h mid vs g new

-- A valid source, lowered and then with any number of spills, is in the form in which ranges are spilled. Its classes are the
-- target's, and it has a block.
abbrev pub LoweredSpillsKeepForm : Type 0
LoweredSpillsKeepForm =
    (t : Target) (f g : Function) (slots new : Slots) (vs : List ℕ) → IsValid t forms.Source f → AreClasses t f → 0 < length f.blocks → SpilledInTurn t (lowered t f) slots vs g new
    → IsLowered t g × AreLowered t g × HasFixedUndefs t g
