-- Spills of ranges without registers leave no clashes.
use Rattle.std.specs.Prelude.{◌≡◌, ◌<◌, ◌⊎◌, ℕ, true, length, List, None, Some}
use Rattle.target_base.specs.declared.types.Effect.TheVariants as effects
use Rattle.target_base.specs.declared.types.Target.{Target}
use Rattle.meaning.specs.declared.types.Lane.{Lane}
use Rattle.meaning.specs.declared.types.Lane.TheVariants.{SlotLane, UnitLane, VirtualLane}
use Rattle.mir_func.specs.declared.func.Instr.{Instr}
use Rattle.mir_func.specs.Binding.{effect_of, is_early_clobber, roles_of}
use Rattle.mir_func.specs.Value.{Function}
use Rattle.mir_meaning.specs.Points.{LiveAt, OccupiedAt, Point, Start}
use Rattle.lowering_laws.specs.Shapes.{IsLowered}
use Rattle.rewriter.specs.Physical.{Assignment, register_of}
use Rattle.spiller.specs.Slots.{Slots, own_slot}
use Rattle.spiller.specs.Spilled.{IsSpilled}
use Rattle.spill_laws.specs.Laws.{AreLowered}
use Rattle.spill_laws.specs.Named.{HasFixedUndefs}
use Rattle.spill_laws.specs.Refined.{SlotApart}
use Rattle.clear_laws.specs.Apart.{Extends, IsApart, KeepsPoints}

-- Where a range is spilled to a slot that is apart from it, other ranges and units are live and occupied at most as they were.
abbrev pub SpillKeepsPoints : Type 0
SpillKeepsPoints =
    (t : Target) (f g : Function) (slots new : Slots) (v : ℕ) (made : List (ℕ × ℕ)) → IsLowered t f → AreLowered t f → HasFixedUndefs t f → SlotApart t f v (own_slot slots v)
    → IsSpilled t f slots v g new made → KeepsPoints t f v g

-- a reload of the target has an early-clobber definition
abbrev pub HasEarlyReload : Target → Type 0
HasEarlyReload t = (i : Instr) × (effect_of t i ≡ Some effects.Reload) × (is_early_clobber (roles_of t i) ≡ true)

-- What a lane of the function was before range v was spilled to slot n: itself, or, for one of the slot, the same lane of the slot
-- at some width or of the range. The range's own lanes were none: they are gone. Of further ranges nothing is said.
abbrev pub WasLane : Function → ℕ → ℕ → (Lane → Type 0) → Lane → Type 0
WasLane f v n was (VirtualLane w k) = w < length f.classes → (w ≡ v → ⊥) × was (VirtualLane w k)
WasLane f v n was (UnitLane u) = was (UnitLane u)
WasLane f v n was (SlotLane m k w) = was (SlotLane m k w) ⊎ ((m ≡ n) × (((u : ℕ) × was (SlotLane n k u)) ⊎ was (VirtualLane v k)))

-- At each point of g lanes are live or occupied at most as at one point of f.
abbrev pub SpillPoints : Target → Function → ℕ → ℕ → Function → Type 0
SpillPoints t f v n g = (p : Point) → (q : Point) × ((l : Lane) → OccupiedAt t g p l → WasLane f v n (OccupiedAt t f q) l)

-- So it is behind a spill, where no reload has an early-clobber definition.
abbrev pub SpillKeepsSlots : Type 0
SpillKeepsSlots =
    (t : Target) (f g : Function) (slots new : Slots) (v : ℕ) (made : List (ℕ × ℕ)) → IsLowered t f → AreLowered t f → HasFixedUndefs t f → SlotApart t f v (own_slot slots v)
    → (HasEarlyReload t → ⊥) → IsSpilled t f slots v g new made → SpillPoints t f v (own_slot slots v) g

-- at the start of each block units, and lanes of ranges, are live in g at most as they are in f
pub record KeepsStarts (t : Target) (f g : Function) : Type 0 where
  pub units : (n u : ℕ) → LiveAt t g (Start n) (UnitLane u) → LiveAt t f (Start n) (UnitLane u)
  pub ranges : (n w k : ℕ) → LiveAt t g (Start n) (VirtualLane w k) → LiveAt t f (Start n) (VirtualLane w k)

-- A spill to a slot that is apart from the range keeps starts so.
abbrev pub SpillKeepsStarts : Type 0
SpillKeepsStarts =
    (t : Target) (f g : Function) (slots new : Slots) (v : ℕ) (made : List (ℕ × ℕ)) → IsLowered t f → AreLowered t f → HasFixedUndefs t f → SlotApart t f v (own_slot slots v)
    → IsSpilled t f slots v g new made → KeepsStarts t f g

-- Where the range has no register and the ranges that are made get none, there are no clashes then.
abbrev pub SpillKeepsApart : Type 0
SpillKeepsApart =
    (t : Target) (f g : Function) (slots new : Slots) (v : ℕ) (made : List (ℕ × ℕ)) (rs after : Assignment) → IsLowered t f → AreLowered t f → HasFixedUndefs t f
    → SlotApart t f v (own_slot slots v) → IsSpilled t f slots v g new made → register_of rs v ≡ None → Extends f rs after → IsApart t f rs → IsApart t g after
