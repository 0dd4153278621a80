-- Which registers ranges have, what they hold, and with what a range in a register would clash.
use Rattle.std.specs.Prelude.{◌≡◌, ◌<◌, ◌≤◌, ℕ, suc, Bool, true, false, cond, not, ◌&&◌, ◌||◌, nat_eq, nat_le, List, [], ◌∷◌, ◌++◌, map, flat_map, filter, length, Option, None, Some, slice_get, Vec}
use Rattle.std.specs.List.{list_any}
use Rattle.target_base.specs.declared.types.Reg.{Reg}
use Rattle.target_base.specs.declared.types.Unit.{Unit as UnitNumber}
use Rattle.target_base.specs.Registers.{units_of}
use Rattle.mir_meaning.specs.Registers.{numbers}
use Rattle.instr_effects.specs.Numbered.{number_in}
use Rattle.instr_effects.specs.declared.owner.Owner.TheVariants as owners
use Rattle.std.specs.Global.{Global}
use Rattle.live_lanes.specs.declared.ask.extent.Stretch.{Stretch}
use Rattle.live_lanes.specs.declared.row.Cell.{Cell}
use Rattle.live_lanes.specs.declared.table.Table.{Table}
use Rattle.live_lanes.specs.Table.{Numbers}
use Rattle.live_lanes.specs.Entered.{cells_of}
use Rattle.live_lanes.specs.Looks.{InOrder}
use Rattle.live_lanes.specs.Extents.{cell_extents, first_rank, last_rank, stretch_of, is_met}
use Rattle.interference.specs.declared.held.RangeExtent.{RangeExtent}
use Rattle.interference.specs.declared.held.HeldList.{HeldList}
use Rattle.interference.specs.declared.unit_table.UnitTable.{UnitTable}
use Rattle.interference.specs.declared.matrix.Matrix.{Matrix}
use Rattle.interference.specs.declared.matrix.Clash.{Clash}
use Rattle.interference.specs.declared.matrix.Clash.TheVariants as clashes

-- the register of a range, where it has one
abbrev pub register_in : List (Option Reg) → ℕ → Option Reg
register_in rs v = elim (slice_get rs v) [ None ↦ None | Some r ↦ r ]

abbrev pub part_of : Vec RangeExtent Global → List RangeExtent
part_of p = p.items

-- the stretches of a list, part by part
abbrev pub held_of : HeldList → List RangeExtent
held_of h = flat_map part_of h.parts.items

-- the list of a unit in the block at a position
abbrev pub list_in : UnitTable → ℕ → ℕ → Option HeldList
list_in h u b = elim (slice_get h.units.items u) [ None ↦ None | Some r ↦ slice_get r.blocks.items b ]

abbrev pub held_of_some : Option HeldList → List RangeExtent
held_of_some None = []
held_of_some (Some h) = held_of h

-- what ranges hold of a unit in the block at a position
abbrev pub holds : Matrix → ℕ → ℕ → List RangeExtent
holds m u b = held_of_some (list_in m.held u b)

-- each stretch begins behind the one before it, or at its last point, as where a piece of a range ends with a reading by
-- an instruction that begins the next piece early
abbrev pub AreApart : Numbers → ℕ → List RangeExtent → Type 0
AreApart slots n [] = Unit {0}
AreApart slots n (h ∷ hs) = (n ≤ first_rank slots h.extent) × AreApart slots (last_rank slots h.extent) hs

abbrev pub is_none : List RangeExtent → Bool
is_none [] = true
is_none (h ∷ hs) = false

-- none of several parts is empty
abbrev pub AreFilled : HeldList → Type 0
AreFilled h = 1 < length h.parts.items → list_any is_none (map part_of h.parts.items) ≡ false

-- each holding range has a place among the registers
abbrev pub AreKnown : ℕ → List RangeExtent → Type 0
AreKnown n hs = list_any (λ h. nat_le n h.range) hs ≡ false

-- the stretches that are held of each unit in each block stand in order
pub record IsOrdered (m : Matrix) : Type 0 where
  pub table : InOrder m.live.table
  pub registers : length m.registers.items ≡ length m.live.func.classes
  pub filled : (u b : ℕ) (h : HeldList) → list_in m.held u b ≡ Some h → AreFilled h
  pub apart : (u b : ℕ) → AreApart m.live.table.order.slots 0 (holds m u b)
  pub known : (u b : ℕ) → AreKnown (length m.registers.items) (holds m u b)

-- it begins at the point or before it
abbrev pub begins_by : Numbers → ℕ → RangeExtent → Bool
begins_by slots at h = nat_le (first_rank slots h.extent) at

-- the range holds one of these points
abbrev pub touches : Numbers → Stretch → RangeExtent → Bool
touches slots at h = begins_by slots at.last h && nat_le at.first (last_rank slots h.extent)

-- another range than one holds some of these points
abbrev pub is_taken : Numbers → List RangeExtent → ℕ → Stretch → Bool
is_taken slots hs but at = list_any (λ h. not (nat_eq h.range but) && touches slots at h) hs

-- that range does
abbrev pub is_taken_by : Numbers → List RangeExtent → ℕ → Stretch → Bool
is_taken_by slots hs w at = list_any (λ h. nat_eq h.range w && touches slots at h) hs

-- a unit is live or occupied by itself, or another range than `but` holds it, at one of these points of the block at a position
abbrev pub is_held : Matrix → ℕ → ℕ → ℕ → Stretch → Bool
is_held m u but b at = is_met m.live.table u b at || is_taken m.live.table.order.slots (holds m u b) but at

-- one point alone
abbrev pub point : ℕ → Stretch
point at = record { first = at; last = at }

-- the same at the start of a block, by its position
abbrev pub is_held_at_start : Matrix → ℕ → ℕ → Option ℕ → Bool
is_held_at_start m u but None = false
is_held_at_start m u but (Some b) = is_held m u but b (point 0)

-- points of a unit in the block at a position
pub record Points : Type 0 where
  pub unit : ℕ
  pub block : ℕ
  pub at : Stretch

-- those that the pieces of a lane in a block would take in a unit
abbrev pub cell_points : Numbers → ℕ → Cell → List Points
cell_points slots u c = map (λ e. record { unit = u; block = c.block; at = stretch_of slots e }) (cell_extents c)

abbrev pub some_cell_points : Numbers → ℕ → Option Cell → List Points
some_cell_points slots u None = []
some_cell_points slots u (Some c) = cell_points slots u c

-- those that a lane would take
abbrev pub lane_points : Table → ℕ → Option ℕ → List Points
lane_points x u None = []
lane_points x u (Some lane) = flat_map (cell_points x.order.slots u) (cells_of x.rows.rows.items lane)

-- those that the lanes of a range, from lane k on, would take in these units
abbrev pub range_points : Table → ℕ → ℕ → List UnitNumber → List Points
range_points x v k [] = []
range_points x v k (u ∷ us) = lane_points x u.0 (number_in x.lanes (owners.Range v k)) ++ range_points x v (suc k) us

-- those that a range would take in a register
abbrev pub points_in : Matrix → ℕ → Reg → List Points
points_in m v p = range_points m.live.table v 0 (units_of m.live.target p)

-- the unit is live or occupied by itself at one of the points
abbrev pub is_fixed_at : Matrix → Points → Bool
is_fixed_at m s = is_met m.live.table s.unit s.block s.at

-- or another range than `but` holds it there
abbrev pub is_held_at : Matrix → ℕ → Points → Bool
is_held_at m but s = is_held m s.unit but s.block s.at

-- that range does
abbrev pub is_taken_at : Matrix → ℕ → Points → Bool
is_taken_at m w s = is_taken_by m.live.table.order.slots (holds m s.unit s.block) w s.at

-- another range, w, does at some of them
abbrev pub are_taken : Matrix → ℕ → List Points → ℕ → Bool
are_taken m v ps w = not (nat_eq w v) && list_any (is_taken_at m w) ps

-- a range in a register would clash with a unit by itself
abbrev pub is_fixed : Matrix → ℕ → Reg → Bool
is_fixed m v p = list_any (is_fixed_at m) (points_in m v p)

-- it would clash with that range
abbrev pub is_in_way : Matrix → ℕ → Reg → ℕ → Bool
is_in_way m v p w = are_taken m v (points_in m v p) w

abbrev pub ranges_of : Matrix → List ℕ
ranges_of m = numbers 0 (length m.registers.items)

abbrev pub clash_at : Matrix → ℕ → Reg → Clash
clash_at m v p = cond (is_fixed m v p) clashes.Fixed (clashes.Ranges (filter (is_in_way m v p) (ranges_of m)))

-- nothing is in the way
abbrev pub is_free : Matrix → ℕ → Reg → Bool
is_free m v p = not (is_fixed m v p) && not (list_any (is_in_way m v p) (ranges_of m))
