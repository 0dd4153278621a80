-- What is live where a function begins, in one direction: no range, and no unit beyond those that the first block lists. Lowering and
-- spills may end the life of a unit, where what it moved into is not needed; so a run keeps this, and a computed table tells in
-- the end which units are live.
use Rattle.std.specs.Prelude.{◌≡◌, ◌<◌, ℕ, true, false, length, List, Some, slice_get}
use Rattle.std.specs.List.{list_any}
use Rattle.target_base.specs.declared.types.Target.{Target}
use Rattle.target_base.specs.Registers.{is_reserved_unit}
use Rattle.meaning.specs.declared.types.Lane.TheVariants.{UnitLane, VirtualLane}
use Rattle.mir_func.specs.declared.func.Block.{Block}
use Rattle.mir_func.specs.Value.{Function}
use Rattle.mir_meaning.specs.declared.Form.TheVariants as forms
use Rattle.mir_meaning.specs.Points.{LiveAt, Start}
use Rattle.mir_meaning.specs.Registers.{has_number}
use Rattle.mir_meaning.specs.Valid.{V14, listed_units}
use Rattle.live_lanes.specs.declared.ask.labels.Mark.{Mark}
use Rattle.live_lanes.specs.declared.live.LiveFunc.{LiveFunc}
use Rattle.live_lanes.specs.Doing.{IsComputed}
use Rattle.live_edits.specs.declared.fold.Join.{Join}
use Rattle.lowering_laws.specs.Shapes.{IsLowered}
use Rattle.join_laws.specs.Joined.{Joined}
use Rattle.join_laws.specs.Laws.{HasPlainUndefs}
use Rattle.split_kit.specs.Split.{Split}
use Rattle.split_laws.specs.Laws.{LabelsAgree}
use Rattle.valid_laws.specs.Rules.{HasStart}

-- no range is live at the start of the first block, which lists the units that are, and no reserved one
pub record ListsStart (t : Target) (f : Function) : Type 0 where
  pub starts : V14 t forms.Source f
  pub listed : (b : Block) → slice_get f.blocks 0 ≡ Some b → (u : ℕ) → u < length t.units → LiveAt t f (Start b.number) (UnitLane u) → has_number (listed_units t b) u ≡ true
  pub unreserved : (b : Block) → slice_get f.blocks 0 ≡ Some b → list_any (is_reserved_unit t) (listed_units t b) ≡ false

-- the first blocks of both functions have one number and list the same, and what is live at the start of the second was live at
-- that of the first, a range where a range was
pub record BeginsWithin (t : Target) (f g : Function) (b c : Block) : Type 0 where
  pub there : slice_get f.blocks 0 ≡ Some b
  pub number : c.number ≡ b.number
  pub liveins : c.liveins ≡ b.liveins
  pub units : (u : ℕ) → LiveAt t g (Start c.number) (UnitLane u) → LiveAt t f (Start b.number) (UnitLane u)
  pub ranges : (w k : ℕ) → LiveAt t g (Start c.number) (VirtualLane w k) → (v : ℕ) × (j : ℕ) × LiveAt t f (Start b.number) (VirtualLane v j)

-- a source has it,
abbrev pub StartIsListed : Type 0
StartIsListed = (t : Target) (f : Function) → HasStart t f → ListsStart t f

-- what begins within such a function has it,
abbrev pub WithinKeepsListed : Type 0
WithinKeepsListed = (t : Target) (f g : Function) → ((c : Block) → slice_get g.blocks 0 ≡ Some c → (b : Block) × BeginsWithin t f g b c) → ListsStart t f → ListsStart t g

-- as does a function behind all joins,
abbrev pub JoinedKeepsListed : Type 0
JoinedKeepsListed = (t : Target) (freqs : List ℕ) (f g : Function) (js : List Join) → IsLowered t f → HasPlainUndefs t f → Joined t freqs f js g → ListsStart t f → ListsStart t g

-- and one with a range split,
abbrev pub SplitKeepsListed : Type 0
SplitKeepsListed = (t : Target) (f g : Function) (v : ℕ) (ms : List Mark) → IsLowered t f → LabelsAgree t f v ms → Split t f v ms g → ListsStart t f → ListsStart t g

-- and where a table is computed, a function that has it keeps the rules of a source on its start
abbrev pub ListedHasStart : Type 0
ListedHasStart = (live : LiveFunc) → IsComputed live.target live.func live.table → IsLowered live.target live.func → ListsStart live.target live.func → HasStart live.target live.func
