-- That the lists of a matrix hold exactly what the assigned ranges have by their registers.
use Rattle.std.specs.Prelude.{◌≡◌, ◌<◌, ◌≤◌, ℕ, suc, Bool, true, false, cond, nat_eq, nat_le, List, [], ◌∷◌, ◌++◌, Option, None, Some, length, is_some, map, ◌&&◌, slice_get}
use Rattle.std.specs.List.{list_any, list_all}
use Rattle.target_base.specs.declared.types.Reg.{Reg}
use Rattle.target_base.specs.declared.types.Target.{Target}
use Rattle.target_base.specs.declared.types.Unit.{Unit as UnitNumber}
use Rattle.target_base.specs.Names.{are_distinct_numbers}
use Rattle.target_base.specs.Registers.{units_of}
use Rattle.instr_effects.specs.Numbered.{number_in}
use Rattle.instr_effects.specs.declared.owner.Owner.TheVariants as owners
use Rattle.live_lanes.specs.declared.ask.extent.Extent.{Extent}
use Rattle.live_lanes.specs.declared.row.Cell.{Cell}
use Rattle.live_lanes.specs.declared.table.Table.{Table}
use Rattle.live_lanes.specs.Table.{Numbers}
use Rattle.live_lanes.specs.Extents.{begins_with, cell_extents, extents_in, first_rank, last_rank, stretch_of}
use Rattle.live_lanes.specs.Looks.{InOrder}
use Rattle.interference.specs.declared.held.RangeExtent.{RangeExtent}
use Rattle.interference.specs.declared.held.HeldList.{HeldList}
use Rattle.interference.specs.declared.unit_table.UnitTable.{UnitTable}
use Rattle.interference.specs.declared.matrix.Matrix.{Matrix}
use Rattle.interference.specs.Clashes.{AreApart, AreFilled, IsOrdered, held_of, held_of_some, holds, is_free, is_taken, list_in, register_in}
use Rattle.interference.specs.Changes.{others_of, own_of, starting}

-- the extents of a lane, if there is one, in the block at a position
abbrev pub lane_extents : Table → Option ℕ → ℕ → List Extent
lane_extents x None b = []
lane_extents x (Some n) b = extents_in x n b

-- those of the lanes of a range, from lane k on, that have these units, in a unit
abbrev pub range_extents : Table → ℕ → ℕ → List UnitNumber → ℕ → ℕ → List Extent
range_extents x v k [] u b = []
range_extents x v k (w ∷ ws) u b = cond (nat_eq w.0 u) (lane_extents x (number_in x.lanes (owners.Range v k)) b) [] ++ range_extents x v (suc k) ws u b

-- what a range has in a unit by its register, if it has one
abbrev pub extents_by : Target → Table → ℕ → Option Reg → ℕ → ℕ → List Extent
extents_by t x v None u b = []
extents_by t x v (Some p) u b = range_extents x v 0 (units_of t p) u b

-- Each list of a unit in a block holds of each range just what it has there by its register, in order.
abbrev pub IsListed : Matrix → Type 0
IsListed m = (v u b : ℕ) → own_of v (holds m u b) ≡ extents_by m.live.target m.live.table v (register_in m.registers.items v) u b

-- there is a list for each unit of the target and each block
abbrev pub HasLists : Matrix → Type 0
HasLists m = (u b : ℕ) → u < length m.live.target.units → b < length m.live.func.blocks → is_some (list_in m.held u b) ≡ true

-- a matrix in order, whose lists hold exactly what the assigned ranges have
pub record KeepsLists (m : Matrix) : Type 0 where
  pub ordered : IsOrdered m
  pub listed : IsListed m
  pub lists : HasLists m

-- each begins at the last point of the one before, or behind it
abbrev pub AreInTurn : Numbers → ℕ → List Extent → Type 0
AreInTurn slots n [] = Unit {0}
AreInTurn slots n (e ∷ es) = (n ≤ first_rank slots e) × AreInTurn slots (last_rank slots e) es

abbrev pub has_some : List Extent → Bool
has_some [] = false
has_some (e ∷ es) = true

-- what a computed table has: the extents of a lane in a block come one behind the other, and lie in blocks of the function
pub record LiesInTurn (m : Matrix) : Type 0 where
  pub turns : (l b : ℕ) → AreInTurn m.live.table.order.slots 0 (lane_extents m.live.table (Some l) b)
  pub within : (l b : ℕ) → has_some (lane_extents m.live.table (Some l) b) ≡ true → b < length m.live.func.blocks

-- A range of such a matrix may hold a register: it would clash with nothing there.
pub record MayHold (m : Matrix) (v : ℕ) (p : Reg) : Type 0 where
  pub keeps : KeepsLists m
  pub lies : LiesInTurn m
  pub known : v < length m.registers.items
  pub free : is_free m v p ≡ true

-- a table in order, in which so many ranges have the lanes and extents that they had
pub record KeepsExtents (count : ℕ) (old new : Table) : Type 0 where
  pub order : InOrder new
  pub slots : new.order.slots ≡ old.order.slots
  pub extents : (v k b : ℕ) → v < count → lane_extents new (number_in new.lanes (owners.Range v k)) b ≡ lane_extents old (number_in old.lanes (owners.Range v k)) b

-- what a table of lists holds of a unit in the block at a position
abbrev pub listed : UnitTable → ℕ → ℕ → List RangeExtent
listed h u b = held_of_some (list_in h u b)

-- no two begin alike
abbrev pub BeginApart : List Extent → Type 0
BeginApart es = (start : Option ℕ) → starting start es ≤ 1

-- where one begins so, one of the others does
abbrev pub AreAmong : List Extent → List Extent → Type 0
AreAmong es fs = (start : Option ℕ) → list_any (begins_with start) es ≡ true → list_any (begins_with start) fs ≡ true

abbrev pub IsFront : List Extent → List Extent → Type 0
IsFront es fs = (rest : List Extent) × (fs ≡ es ++ rest)

-- a list in order, in which no two stretches of the range begin alike
pub record IsTidy (slots : Numbers) (v : ℕ) (l : HeldList) : Type 0 where
  pub filled : AreFilled l
  pub apart : AreApart slots 0 (held_of l)
  pub single : BeginApart (own_of v (held_of l))

-- a range's stretches of such a list that begin as some extents do are taken out of it
pub record IsThinned (slots : Numbers) (v : ℕ) (es : List Extent) (l k : HeldList) : Type 0 where
  pub tidy : IsTidy slots v l → IsTidy slots v k
  pub others : IsTidy slots v l → others_of v (held_of k) ≡ others_of v (held_of l)
  pub own : IsTidy slots v l → (rest : List Extent) → AreAmong (own_of v (held_of l)) (es ++ rest) → AreAmong (own_of v (held_of k)) rest

-- A list in order by which a range holds nothing has room for extents that come one behind the other, where no other range holds any of
-- their points.
pub record HasRoom (slots : Numbers) (v : ℕ) (es : List Extent) (l : HeldList) : Type 0 where
  pub filled : AreFilled l
  pub apart : AreApart slots 0 (held_of l)
  pub none : own_of v (held_of l) ≡ []
  pub turns : AreInTurn slots 0 es
  pub clear : list_any (λ e. is_taken slots (held_of l) v (stretch_of slots e)) es ≡ false

-- the last of what a range holds by a list ends by the first point of an extent, and no other range holds any of its points
abbrev pub IsClear : Numbers → ℕ → List RangeExtent → Option Extent → Type 0
IsClear slots v hs None = Unit {0}
IsClear slots v hs (Some e) = (is_taken slots hs v (stretch_of slots e) ≡ false) × (list_all (λ x. nat_le (last_rank slots x) (first_rank slots e)) (own_of v hs) ≡ true)

-- a list in order by which others hold what they held
pub record IsKept (slots : Numbers) (v : ℕ) (l k : HeldList) : Type 0 where
  pub filled : AreFilled k
  pub apart : AreApart slots 0 (held_of k)
  pub others : others_of v (held_of k) ≡ others_of v (held_of l)

-- some of the extents, from the first on, are put into a list that has room
pub record IsBegun (slots : Numbers) (v : ℕ) (es : List Extent) (l k : HeldList) : Type 0 where
  pub kept : HasRoom slots v es l → IsKept slots v l k
  pub own : HasRoom slots v es l → IsFront (own_of v (held_of k)) es

-- all of them are
pub record IsFilled (slots : Numbers) (v : ℕ) (es : List Extent) (l k : HeldList) : Type 0 where
  pub kept : HasRoom slots v es l → IsKept slots v l k
  pub own : HasRoom slots v es l → own_of v (held_of k) ≡ es

-- one of several lists changes
pub record ChangesRow (P : HeldList → HeldList → Type 0) (b : ℕ) (ls ks : List HeldList) : Type 0 where
  pub here : (l : HeldList) → slice_get ls b ≡ Some l → (k : HeldList) × (slice_get ks b ≡ Some k) × P l k
  pub none : slice_get ls b ≡ None → slice_get ks b ≡ None
  pub other : (p : ℕ) → nat_eq b p ≡ false → slice_get ks p ≡ slice_get ls p

-- one list of a table does
pub record ChangesAt (P : HeldList → HeldList → Type 0) (u b : ℕ) (old new : UnitTable) : Type 0 where
  pub here : (l : HeldList) → list_in old u b ≡ Some l → (k : HeldList) × (list_in new u b ≡ Some k) × P l k
  pub none : list_in old u b ≡ None → list_in new u b ≡ None
  pub other : (w p : ℕ) → (nat_eq u w && nat_eq b p) ≡ false → list_in new w p ≡ list_in old w p

-- the list of the block of a cell does, if there is such a cell
abbrev pub ChangesCell : (List Extent → HeldList → HeldList → Type 0) → ℕ → Option Cell → UnitTable → UnitTable → Type 0
ChangesCell P u None old new = new ≡ old
ChangesCell P u (Some c) old new = ChangesAt (P (cell_extents c)) u c.block old new

-- all lists of a table are in order
pub record AreSorted (slots : Numbers) (a : UnitTable) : Type 0 where
  pub filled : (u b : ℕ) (l : HeldList) → list_in a u b ≡ Some l → AreFilled l
  pub apart : (u b : ℕ) → AreApart slots 0 (listed a u b)

-- and in none do two stretches of the range begin alike
pub record AreTidy (slots : Numbers) (v : ℕ) (a : UnitTable) : Type 0 where
  pub sorted : AreSorted slots a
  pub single : (u b : ℕ) → BeginApart (own_of v (listed a u b))

-- the lists are the same but for what a range holds
pub record KeepsOthers (v : ℕ) (old new : UnitTable) : Type 0 where
  pub there : (u b : ℕ) → is_some (list_in new u b) ≡ is_some (list_in old u b)
  pub others : (u b : ℕ) → others_of v (listed new u b) ≡ others_of v (listed old u b)

-- extents by units and blocks
abbrev pub Lots : Type 0
Lots = ℕ → ℕ → List Extent

-- what the range holds of each unit in each block begins as some of the extents do
abbrev pub AreWithin : ℕ → UnitTable → Lots → Type 0
AreWithin v a more = (u b : ℕ) → AreAmong (own_of v (listed a u b)) (more u b)

-- what a lane has, and besides
abbrev pub lane_lots : Table → ℕ → Option ℕ → Lots → Lots
lane_lots x unit lane more u b = cond (nat_eq unit u) (lane_extents x lane b) [] ++ more u b

-- what a range has by its lanes from lane k on in these units, and besides
abbrev pub range_lots : Table → ℕ → ℕ → List UnitNumber → Lots → Lots
range_lots x v k us more u b = range_extents x v k us u b ++ more u b

-- a range's stretches that begin as the extents do are taken out of the lists
pub record Thins (slots : Numbers) (v : ℕ) (es : Lots → Lots) (old new : UnitTable) : Type 0 where
  pub tidy : AreTidy slots v old → AreTidy slots v new
  pub others : AreTidy slots v old → KeepsOthers v old new
  pub own : AreTidy slots v old → (more : Lots) → AreWithin v old (es more) → AreWithin v new more

-- the lists of a unit have room for what a lane has
pub record LaneHasRoom (x : Table) (v unit : ℕ) (lane : Option ℕ) (a : UnitTable) : Type 0 where
  pub sorted : AreSorted x.order.slots a
  pub none : (b : ℕ) → own_of v (listed a unit b) ≡ []
  pub turns : (b : ℕ) → AreInTurn x.order.slots 0 (lane_extents x lane b)
  pub there : (b : ℕ) → has_some (lane_extents x lane b) ≡ true → is_some (list_in a unit b) ≡ true
  pub clear : (b : ℕ) → list_any (λ e. is_taken x.order.slots (listed a unit b) v (stretch_of x.order.slots e)) (lane_extents x lane b) ≡ false

-- the lists have room for what a range has by its lanes in units, of which no two are the same
pub record RangeHasRoom (x : Table) (v : ℕ) (us : List UnitNumber) (a : UnitTable) : Type 0 where
  pub sorted : AreSorted x.order.slots a
  pub none : (u b : ℕ) → own_of v (listed a u b) ≡ []
  pub turns : (l b : ℕ) → AreInTurn x.order.slots 0 (lane_extents x (Some l) b)
  pub there : (u b : ℕ) → has_some (range_extents x v 0 us u b) ≡ true → is_some (list_in a u b) ≡ true
  pub clear : (u b : ℕ) → list_any (λ e. is_taken x.order.slots (listed a u b) v (stretch_of x.order.slots e)) (range_extents x v 0 us u b) ≡ false
  pub distinct : are_distinct_numbers (map (λ w. w.0) us) ≡ true

-- what a range holds by the lists, and what a lane has
abbrev pub with_lane : Table → ℕ → ℕ → Option ℕ → UnitTable → Lots
with_lane x v unit lane a u b = own_of v (listed a u b) ++ cond (nat_eq unit u) (lane_extents x lane b) []

-- lists in order by which others hold what they held, and the range some of the extents, from the first on
pub record Begins (slots : Numbers) (v : ℕ) (es : Lots) (old new : UnitTable) : Type 0 where
  pub sorted : AreSorted slots new
  pub others : KeepsOthers v old new
  pub own : (u b : ℕ) → IsFront (own_of v (listed new u b)) (es u b)

-- the same, and the range all of them
pub record Fills (slots : Numbers) (v : ℕ) (es : Lots) (old new : UnitTable) : Type 0 where
  pub sorted : AreSorted slots new
  pub others : KeepsOthers v old new
  pub own : (u b : ℕ) → own_of v (listed new u b) ≡ es u b
