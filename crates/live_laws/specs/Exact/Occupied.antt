-- What a computed table tells of live and occupied lanes, against the meaning of the function.
use Rattle.std.specs.Prelude.{◌≡◌, ◌<◌, ◌↔◌, ℕ, false, true, Some, slice_get}
use Rattle.target_base.specs.declared.types.Target.{Target}
use Rattle.meaning.specs.declared.types.Lane.{Lane}
use Rattle.meaning.specs.declared.types.Lane.TheVariants.{VirtualLane}
use Rattle.meaning.specs.Live.{Among as Member, is_slot}
use Rattle.mir_func.specs.declared.func.Block.{Block}
use Rattle.mir_func.specs.declared.func.Instr.{Instr}
use Rattle.mir_func.specs.Value.{Function}
use Rattle.mir_meaning.specs.Points.{Point, Start, Entry, Exit, OccupiedAt, PointCount}
use Rattle.mir_meaning.specs.Rules.{V8}
use Rattle.instr_effects.specs.declared.row.LaneSpan.{LaneSpan}
use Rattle.instr_effects.specs.Numbered.{number_in}
use Rattle.instr_effects.specs.Stepping.{tag_of}
use Rattle.live_laws.specs.Effects.Shaped.{is_proper}
use Rattle.live_laws.specs.Effects.Coded.{spot_in, KeepsRules}
use Rattle.live_lanes.specs.declared.table.Table.{Table}
use Rattle.live_lanes.specs.Table.{entry_rank, exit_rank}
use Rattle.live_lanes.specs.Entered.{rows_seen}
use Rattle.live_lanes.specs.Doing.{IsComputed}
use Rattle.live_lanes.specs.Looks.{InOrder}
use Rattle.live_lanes.specs.Held.{held_at, any_held, range_held, AreRanked}

-- a table tells of each lane that has a number exactly at which points it is live or occupied; it stands in order for look-ups
pub record TellsOccupied (t : Target) (f : Function) (x : Table) : Type 0 where
  pub ordered : InOrder x
  pub ranked : AreRanked x.order.slots f.blocks
  pub start : (l : Lane) (n : ℕ) → is_slot l ≡ false → tag_of (number_in x.lanes) (is_proper t) l ≡ Some n → (k : ℕ) (b : Block) → slice_get f.blocks k ≡ Some b → (held_at x.order.slots (rows_seen x.rows.rows.items n k) 0 ≡ true) ↔ OccupiedAt t f (Start b.number) l
  pub entry : (l : Lane) (n : ℕ) → is_slot l ≡ false → tag_of (number_in x.lanes) (is_proper t) l ≡ Some n → (id p k : ℕ) → spot_in id f.blocks ≡ Some (p, k) → (held_at x.order.slots (rows_seen x.rows.rows.items n p) (entry_rank x.order.slots id) ≡ true) ↔ OccupiedAt t f (Entry id) l
  pub exit : (l : Lane) (n : ℕ) → is_slot l ≡ false → tag_of (number_in x.lanes) (is_proper t) l ≡ Some n → (id p k : ℕ) → spot_in id f.blocks ≡ Some (p, k) → (held_at x.order.slots (rows_seen x.rows.rows.items n p) (exit_rank x.order.slots id) ≡ true) ↔ OccupiedAt t f (Exit id) l

-- a computed table does so
abbrev pub TellsOccupiedLaw : Type 0
TellsOccupiedLaw =
    (t : Target) (f : Function) (x : Table) → IsComputed t f x → KeepsRules t f → ((b : Block) (j : ℕ) (i : Instr) → Member b f.blocks → slice_get b.instrs j ≡ Some i → V8 t b j i ≡ true)
    → TellsOccupied t f x

-- one of the first lanes of the range is live or occupied at the point
abbrev pub LanePoint : Target → Function → ℕ → ℕ → Point → Type 0
LanePoint t f v count p = (j : ℕ) × (j < count) × OccupiedAt t f p (VirtualLane v j)

-- a table tells of a range exactly at which points one of the lanes that have numbers is live or occupied
pub record TellsRange (t : Target) (f : Function) (x : Table) (v : ℕ) (own : LaneSpan) : Type 0 where
  pub start : (k : ℕ) (b : Block) → slice_get f.blocks k ≡ Some b → (any_held x.order.slots x.rows.rows.items own.first own.count k 0 ≡ true) ↔ LanePoint t f v own.count (Start b.number)
  pub entry : (id p k : ℕ) → spot_in id f.blocks ≡ Some (p, k) → (any_held x.order.slots x.rows.rows.items own.first own.count p (entry_rank x.order.slots id) ≡ true) ↔ LanePoint t f v own.count (Entry id)
  pub exit : (id p k : ℕ) → spot_in id f.blocks ≡ Some (p, k) → (any_held x.order.slots x.rows.rows.items own.first own.count p (exit_rank x.order.slots id) ≡ true) ↔ LanePoint t f v own.count (Exit id)

-- a computed table does so of each range
abbrev pub TellsRangeLaw : Type 0
TellsRangeLaw =
    (t : Target) (f : Function) (x : Table) → IsComputed t f x → KeepsRules t f → ((b : Block) (j : ℕ) (i : Instr) → Member b f.blocks → slice_get b.instrs j ≡ Some i → V8 t b j i ≡ true)
    → (v : ℕ) (own : LaneSpan) → slice_get x.lanes.ranges.items v ≡ Some own → TellsRange t f x v own

-- A table's count of a range is the number of its points, and fits 64 bits. It stands in order for the counting. (A range that the table
-- doesn't know has no points.)
pub record TellsPoints (t : Target) (f : Function) (x : Table) : Type 0 where
  pub ordered : InOrder x
  pub ranked : AreRanked x.order.slots f.blocks
  pub few : (v : ℕ) → range_held x f.blocks v < 18446744073709551616
  pub count : (v : ℕ) → PointCount t f v (range_held x f.blocks v)

-- a computed table's does so
abbrev pub PointsLaw : Type 0
PointsLaw =
    (t : Target) (f : Function) (x : Table) → IsComputed t f x → KeepsRules t f → ((b : Block) (j : ℕ) (i : Instr) → Member b f.blocks → slice_get b.instrs j ≡ Some i → V8 t b j i ≡ true)
    → TellsPoints t f x
