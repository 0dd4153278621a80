-- The parts of a list of stretches that are held, and places among them.
use Rattle.std.specs.Prelude.{◌≡◌, ◌<◌, ◌≤◌, filter, ℕ, zero, suc, Bool, true, false, cond, nat_eq, nat_lt, List, [], ◌∷◌, ◌++◌, take, map, Option, None, Some, slice_get, length}
use Rattle.std.specs.List.{list_any}
use Rattle.live_lanes.specs.declared.ask.extent.Stretch.{Stretch}
use Rattle.live_lanes.specs.Table.{Numbers}
use Rattle.live_lanes.specs.Extents.{last_rank}
use Rattle.interference.specs.declared.held.ListPosition.{ListPosition}
use Rattle.interference.specs.declared.held.RangeExtent.{RangeExtent}
use Rattle.interference.specs.declared.held.HeldList.{HeldList}
use Rattle.interference.specs.declared.unit_table.UnitExtents.{UnitExtents}
use Rattle.interference.specs.declared.held.OverlapResult.{OverlapResult}
use Rattle.interference.specs.declared.held.OverlapResult.TheVariants as mets
use Rattle.interference.specs.Clashes.{held_of, AreApart, AreFilled, part_of, begins_by, is_taken, is_taken_by}

abbrev pub parts_of : HeldList → List (List RangeExtent)
parts_of h = map part_of h.parts.items

abbrev pub some_part : Option (List RangeExtent) → List RangeExtent
some_part None = []
some_part (Some p) = p

-- the stretches of a part
abbrev pub part_in : List (List RangeExtent) → ℕ → List RangeExtent
part_in ps k = some_part (slice_get ps k)

-- those of a part that stand before a place
abbrev pub part_before : List (List RangeExtent) → ListPosition → ℕ → List RangeExtent
part_before ps gap k = cond (nat_eq k gap.part) (take gap.count (part_in ps k)) (part_in ps k)

-- those of the first n parts
abbrev pub before : List (List RangeExtent) → ListPosition → ℕ → List RangeExtent
before ps gap zero = []
before ps gap (suc k) = before ps gap k ++ part_before ps gap k

-- the first stretch of a part begins at the point or before it
abbrev pub part_begins : Numbers → ℕ → List RangeExtent → Bool
part_begins slots at [] = false
part_begins slots at (h ∷ hs) = begins_by slots at h

-- all before the point
abbrev pub lies_before : Numbers → ℕ → RangeExtent → Bool
lies_before slots at h = nat_lt (last_rank slots h.extent) at

-- what is found of these points by stretches that begin by the last of them
abbrev pub IsMet : Numbers → List RangeExtent → Stretch → ℕ → OverlapResult → Type 0
IsMet slots hs at but (mets.Other w) = (nat_eq w but ≡ false) × (is_taken_by slots hs w at ≡ true)
IsMet slots hs at but mets.Behind = (is_taken slots hs but at ≡ false) × (list_any (lies_before slots at.first) hs ≡ true)
IsMet slots hs at but mets.Open = is_taken slots hs but at ≡ false

-- a place behind all stretches that begin at the point or before it
pub record IsBehind (slots : Numbers) (at : ℕ) (l : HeldList) (gap : ListPosition) : Type 0 where
  pub within : gap.count ≤ length (part_in (parts_of l) gap.part)
  pub begun : AreFilled l → AreApart slots 0 (held_of l) → before (parts_of l) gap (suc gap.part) ≡ filter (begins_by slots at) (held_of l)

-- a place in a part, behind all stretches that begin at the point or before it
pub record IsGap (slots : Numbers) (at : ℕ) (l : HeldList) (gap : ListPosition) : Type 0 where
  pub part : gap.part < length l.parts.items
  pub within : gap.count ≤ length (part_in (parts_of l) gap.part)
  pub begun : AreFilled l → AreApart slots 0 (held_of l) → before (parts_of l) gap (suc gap.part) ≡ filter (begins_by slots at) (held_of l)

-- a list with some part, and a unit with such a list
abbrev pub has_parts : HeldList → Bool
has_parts h = nat_lt 0 (length h.parts.items)

abbrev pub has_lists : UnitExtents → Bool
has_lists r = list_any has_parts r.blocks.items
