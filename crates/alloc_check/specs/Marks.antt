-- Which lanes may be among those written, by marks at their slots.
use Rattle.std.specs.Prelude.{◌≡◌, ℕ, ◌%◌, Bool, true, false, cond, nat_eq, not, ◌&&◌, List, [], ◌∷◌, slice_index_or}
use Rattle.meaning.specs.declared.types.Lane.{Lane}
use Rattle.meaning.specs.declared.types.Lane.TheVariants.{VirtualLane, UnitLane, SlotLane}
use Rattle.meaning.specs.declared.types.Source.{Source}
use Rattle.meaning.specs.declared.types.Source.TheVariants.{FromLane, Undef, Bits}
use Rattle.meaning.specs.Lanes.{Writes, same_lane}

-- a slot for a number, one of so many
abbrev pub spread : ℕ → ℕ → ℕ
spread slots n = cond (nat_eq slots 0) 0 (n % slots)

-- many lanes have one slot
abbrev pub lane_slot : ℕ → Lane → ℕ
lane_slot slots (VirtualLane v k) = spread slots v
lane_slot slots (UnitLane u) = spread slots u
lane_slot slots (SlotLane s k width) = spread slots s

abbrev pub source_slot : ℕ → Source → ℕ
source_slot slots (FromLane l) = lane_slot slots l
source_slot slots Undef = 0
source_slot slots (Bits c low width) = 0

-- the lane is none of those written
abbrev pub unwritten : Writes → Lane → Bool
unwritten [] l = true
unwritten (w ∷ ws) l = not (same_lane w.lane l) && unwritten ws l

-- the writes leave the source as it is
abbrev pub stays : Writes → Source → Bool
stays ws (FromLane l) = unwritten ws l
stays ws Undef = true
stays ws (Bits c low width) = true

-- the slot has a mark that isn't 0, or none at all
abbrev pub is_marked : List ℕ → ℕ → Bool
is_marked marks slot = not (nat_eq (slice_index_or marks slot 1) 0)

-- each lane that is written has its slot marked
abbrev pub Marks : ℕ → List ℕ → Writes → Type 0
Marks slots marks ws = (l : Lane) → is_marked marks (lane_slot slots l) ≡ false → unwritten ws l ≡ true
