-- Numbers for lanes: units first, then the lanes of ranges and of slots, each register's and each slot's in a row.
use Rattle.std.specs.Prelude.{ℕ, Bool, cond, List, Option, Some, None, slice_get}
use Rattle.std.specs.Ordering.{nat_cmp}
use Rattle.std.specs.BTreeMap.{BTreeMap, get}
use Rattle.instr_effects.specs.declared.row.LaneSpan.{LaneSpan}
use Rattle.instr_effects.specs.declared.owner.Owner.{Owner}
use Rattle.instr_effects.specs.declared.owner.Owner.TheVariants as owners
use Rattle.instr_effects.specs.Row.{lane_in}

-- a unit by its number, where it isn't reserved
abbrev pub unit_number_in : List Bool → ℕ → Option ℕ
unit_number_in reserved u = elim (slice_get reserved u) [ None ↦ None | Some b ↦ cond b None (Some u) ]

-- the number of a lane of a range or of a slot, if this has numbers
abbrev pub row_number_in : Option LaneSpan → ℕ → Option ℕ
row_number_in None k = None
row_number_in (Some x) k = lane_in x.first x.count k

-- the number of a lane, where it has one; reserved units have none
abbrev pub owner_number : List Bool → List LaneSpan → BTreeMap ℕ LaneSpan → Owner → Option ℕ
owner_number reserved ranges slots (owners.Unit u) = unit_number_in reserved u
owner_number reserved ranges slots (owners.Range v k) = row_number_in (slice_get ranges v) k
owner_number reserved ranges slots (owners.Slot s k) = row_number_in (get nat_cmp slots s) k
