-- Ranges that come from one range, their original, and the slot that they share.
use Rattle.std.specs.Prelude.{◌≡◌, ◌≢◌, ◌<◌, ℕ, true, length, Some}
use Rattle.target_base.specs.declared.types.Target.{Target}
use Rattle.meaning.specs.Live.{Among as Member}
use Rattle.meaning.specs.declared.types.Lane.TheVariants.{SlotLane}
use Rattle.mir_func.specs.Value.{Function}
use Rattle.mir_meaning.specs.Points.{OccupiedAt, Point, RangePoint}
use Rattle.mir_meaning.specs.Registers.{has_number, numbers}
use Rattle.lowering_laws.specs.Shapes.{IsLowered}
use Rattle.spiller.specs.Slots.{Slots, given_numbers, original_of, own_slot, slot_of}
use Rattle.spill_laws.specs.Refined.{SlotApart}
use Rattle.ready_laws.specs.Frames.{AreFirst, HasNoSlots}

-- some lane of the slot is live or written at the point
abbrev pub SlotPoint : Target → Function → ℕ → Point → Type 0
SlotPoint t f n p = (j : ℕ) × (w : ℕ) × OccupiedAt t f p (SlotLane n j w)

-- The original of each range is known, and is a range; slots are given to such, and no slot is given to two of them.
pub record KnowsOriginals (f : Function) (s : Slots) : Type 0 where
  pub each : length s.originals ≡ length f.classes
  pub within : (o : ℕ) → Member o s.originals → o < length f.classes
  pub owners : (x : ℕ × ℕ) → Member x s.given → x.0 < length f.classes
  pub once : (x y : ℕ × ℕ) → Member x s.given → Member y s.given → x.1 ≡ y.1 → x.0 ≡ y.0

-- At no point are two ranges of one original both live or written, nor a range and the slot of its original; and no slot is
-- that wasn't given.
pub record AreSiblingsApart (t : Target) (f : Function) (s : Slots) : Type 0 where
  pub ranges : (v w : ℕ) → v < length f.classes → w < length f.classes → v ≢ w → original_of s v ≡ original_of s w → (p : Point) → RangePoint t f v p → RangePoint t f w p → ⊥
  pub slots : (v n : ℕ) → v < length f.classes → slot_of s v ≡ Some n → SlotApart t f v n
  pub given : (n : ℕ) (p : Point) → SlotPoint t f n p → has_number (given_numbers s.given) n ≡ true

-- Then each range is apart from the slot that it has, or that it would get.
abbrev pub SiblingsGiveSlotApart : Type 0
SiblingsGiveSlotApart = (t : Target) (f : Function) (s : Slots) (v : ℕ) → AreSiblingsApart t f s → v < length f.classes → SlotApart t f v (own_slot s v)

-- A run begins so: each range is its own original, and no instruction is a store to a slot or a reload.
abbrev pub FirstSiblingsApart : Type 0
FirstSiblingsApart =
    (t : Target) (f : Function) (s : Slots) → IsLowered t f → HasNoSlots t f → AreFirst f s → s.originals ≡ numbers 0 (length f.classes)
    → KnowsOriginals f s × AreSiblingsApart t f s
