-- Which spill slots clash, and how a table of live lanes tells it.
use Rattle.std.specs.Prelude.{◌≡◌, Decides, ℕ, Bool, true, List, [], Option, Some, None, slice_get}
use Rattle.std.specs.List.{list_any}
use Rattle.std.specs.Ordering.{nat_cmp}
use Rattle.std.specs.BTreeMap.{get}
use Rattle.target_base.specs.declared.types.Target.{Target}
use Rattle.meaning.specs.declared.types.Lane.TheVariants.{SlotLane}
use Rattle.meaning.specs.Live.{Among as Member}
use Rattle.mir_func.specs.declared.func.Block.{Block}
use Rattle.mir_func.specs.declared.func.Instr.{Instr}
use Rattle.mir_func.specs.Value.{Function}
use Rattle.mir_meaning.specs.Points.{Point, OccupiedAt}
use Rattle.mir_meaning.specs.Registers.{numbers}
use Rattle.mir_meaning.specs.Rules.{V8}
use Rattle.instr_effects.specs.declared.row.LaneSpan.{LaneSpan}
use Rattle.live_lanes.specs.declared.row.Cell.{Cell}
use Rattle.live_lanes.specs.declared.table.Table.{Table}
use Rattle.live_lanes.specs.Doing.{IsComputed}
use Rattle.live_lanes.specs.Extents.{is_met}
use Rattle.live_laws.specs.Effects.Coded.{KeepsRules}
use Rattle.interference.specs.Clashes.{Points, some_cell_points, lane_points}

-- some lane of the slot is live or occupied at the point
abbrev pub SlotPoint : Target → Function → ℕ → Point → Type 0
SlotPoint t f s p = (k : ℕ) × (w : ℕ) × OccupiedAt t f p (SlotLane s k w)

-- two slots clash: at one point a lane of each is live or occupied
abbrev pub SlotsClash : Target → Function → ℕ → ℕ → Type 0
SlotsClash t f s r = (p : Point) × SlotPoint t f s p × SlotPoint t f r p

-- the test tells which slots clash
abbrev pub TellsClashes : Target → Function → (ℕ → ℕ → Bool) → Type 0
TellsClashes t f clash = (s r : ℕ) → Decides (clash s r) (SlotsClash t f s r)

-- By a table of live lanes.

-- the numbers of lanes in a row
abbrev pub numbers_in : LaneSpan → List ℕ
numbers_in own = numbers own.first own.count

abbrev pub lanes_in : Option LaneSpan → List ℕ
lanes_in None = []
lanes_in (Some own) = numbers_in own

-- the numbers of the lanes of a slot
abbrev pub slot_lanes : Table → ℕ → List ℕ
slot_lanes x s = lanes_in (get nat_cmp x.lanes.slots s)

-- the lane is live or occupied at one of these points
abbrev pub is_met_at : Table → ℕ → Points → Bool
is_met_at x lane s = is_met x lane s.block s.at

-- the lane has a point in common with another one, in the block of a cell of this one
abbrev pub is_met_in : Table → ℕ → Option Cell → Bool
is_met_in x lane o = list_any (is_met_at x lane) (some_cell_points x.order.slots lane o)

-- two lanes have a point in common
abbrev pub do_meet : Table → ℕ → ℕ → Bool
do_meet x one other = list_any (is_met_at x other) (lane_points x other (Some one))

-- two slots clash by the table
abbrev pub is_clash : Table → ℕ → ℕ → Bool
is_clash x s r = list_any (λ one. list_any (do_meet x one) (slot_lanes x r)) (slot_lanes x s)

-- a computed table tells which slots clash; slots that have no lanes in it have no points
abbrev pub ClashLaw : Type 0
ClashLaw =
    (t : Target) (f : Function) (x : Table) → IsComputed t f x → KeepsRules t f → ((b : Block) (j : ℕ) (i : Instr) → Member b f.blocks → slice_get b.instrs j ≡ Some i → V8 t b j i ≡ true)
    → TellsClashes t f (is_clash x)
