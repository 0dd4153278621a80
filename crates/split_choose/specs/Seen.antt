-- What offers ask, as a table of what is live and a matrix of what is held answer it, and what has to hold of these.
use Rattle.std.specs.Prelude.{◌≡◌, ◌<◌, ℕ, Bool, true, false, cond, ◌&&◌, nat_le, nat_lt, List, [], ◌∷◌, length, Option, None, Some, slice_get, slice_index}
use Rattle.std.specs.List.{list_all}
use Rattle.target_base.specs.declared.types.Unit.{Unit as UnitNumber}
use Rattle.target_base.specs.declared.types.Target.{Target}
use Rattle.mir_func.specs.declared.func.Instr.{Instr}
use Rattle.mir_func.specs.declared.func.Block.{Block}
use Rattle.mir_func.specs.Value.{Function}
use Rattle.mir_func.specs.Binding.{does, is_terminator}
use Rattle.mir_meaning.specs.Points.{Point, Start, Entry, Exit}
use Rattle.live_lanes.specs.declared.ask.extent.Stretch.{Stretch}
use Rattle.live_lanes.specs.declared.row.LaneUse.{LaneUse}
use Rattle.live_lanes.specs.declared.table.Table.{Table}
use Rattle.mir_meaning.specs.Paths.{has}
use Rattle.live_lanes.specs.Graph.{is_live}
use Rattle.live_lanes.specs.declared.row.PieceEnd.{PieceEnd}
use Rattle.live_lanes.specs.declared.row.PieceEnd.TheVariants as ends
use Rattle.live_lanes.specs.Table.{Numbers, Begun, Seen, entry_rank, exit_rank, end_rank, descends}
use Rattle.live_lanes.specs.Ways.{successors}
use Rattle.live_lanes.specs.Entered.{causes, cells_of, rows_seen}
use Rattle.live_lanes.specs.Ordered.{ids_of, place_of}
use Rattle.live_lanes.specs.Looks.{InOrder, entry_at, exit_at}
use Rattle.live_lanes.specs.Held.{held_at, hold_rank}
use Rattle.live_lanes.specs.Touching.{FindsInstrs, some_lane}
use Rattle.live_lanes.specs.Tells.{TellsTouched}
use Rattle.interference.specs.declared.held.RangeExtent.{RangeExtent}
use Rattle.interference.specs.declared.matrix.Matrix.{Matrix}
use Rattle.interference.specs.Clashes.{IsOrdered, is_held, holds}
use Rattle.split_choose.specs.Offers.{View}
use Rattle.split_choose.specs.Bundles.{are_joined, ArePlaced, are_led, AreFollowed}

-- the position of the block of a point
abbrev pub home_of : Table → List Block → Point → Option ℕ
home_of x bs (Start n) = place_of n bs
home_of x bs (Entry id) = Some (slice_index x.order.block_of.items id)
home_of x bs (Exit id) = Some (slice_index x.order.block_of.items id)

-- its number, which rises along the block
abbrev pub rank_of : Numbers → Point → ℕ
rank_of slots (Start n) = 0
rank_of slots (Entry id) = entry_rank slots id
rank_of slots (Exit id) = exit_rank slots id

abbrev pub at_home : (ℕ → Bool) → Option ℕ → Bool
at_home test None = false
at_home test (Some b) = test b

-- some lane of the range is live at the point
abbrev pub seen_live : Table → List Block → ℕ → Point → Bool
seen_live x bs v (Start n) = at_home (λ b. some_lane x v (λ l. is_live (causes x.rows.rows.items l b 0))) (place_of n bs)
seen_live x bs v (Entry id) = some_lane x v (λ l. entry_at x (Some l) id)
seen_live x bs v (Exit id) = some_lane x v (λ l. exit_at x (Some l) id)

-- some lane of it is live or occupied there
abbrev pub seen_point : Table → List Block → ℕ → Point → Bool
seen_point x bs v p = at_home (λ b. some_lane x v (λ l. held_at x.order.slots (rows_seen x.rows.rows.items l b) (rank_of x.order.slots p))) (home_of x bs p)

-- the point of that number alone
abbrev pub only : ℕ → Stretch
only at = record { first = at; last = at }

-- something else than the range holds the unit there
abbrev pub seen_held : Matrix → ℕ → UnitNumber × Point → Bool
seen_held m v (u, p) = at_home (λ b. is_held m u.0 v b (only (rank_of m.live.table.order.slots p))) (home_of m.live.table m.live.func.blocks p)

-- what a range's offers ask, where these borders stand for others
abbrev pub view_of : Matrix → ℕ → List ℕ → View
view_of m v parents = record {
  live = seen_live m.live.table m.live.func.blocks v;
  is_point = seen_point m.live.table m.live.func.blocks v;
  held = seen_held m v;
  one_bundle = are_joined m.live.func.blocks parents;
}

-- behind a terminator stand terminators only
abbrev pub ends_in_terminators : Target → List Instr → Bool
ends_in_terminators t [] = true
ends_in_terminators t (i ∷ is) = cond (does is_terminator t i) (list_all (does is_terminator t) is) (ends_in_terminators t is)

-- Where places are asked for: points stand in order, instructions are found, those that touch the range are named, blocks have numbers of their own
-- and end in their terminators, and labels are few enough for their numbers.
pub record FindsPlaces (t : Target) (f : Function) (x : Table) (v : ℕ) : Type 0 where
  pub order : InOrder x
  pub instrs : FindsInstrs x f.blocks
  pub touched : TellsTouched x f v
  pub placed : ArePlaced f.blocks
  pub ended : list_all (λ b. ends_in_terminators t b.instrs) f.blocks ≡ true
  pub few : length f.blocks < 65536

-- the lane's pieces in the block at a position begin with instructions of it
abbrev pub begins_here : List Instr → Seen → Bool
begins_here is s = list_all (λ p. has p.start (ids_of is)) s.segments

-- the instructions that read the lane in its pieces in the block at a position are of it
abbrev pub are_here : List Instr → List LaneUse → Bool
are_here is rs = list_all (λ r. has r.id (ids_of is)) rs

abbrev pub reads_here : List Instr → Seen → Bool
reads_here is s = are_here is s.readings && list_all (λ p. are_here is p.readings) s.segments

-- what is held begins at the block's start or with an instruction of it
abbrev pub starts_here : List Instr → RangeExtent → Bool
starts_here is h = elim h.extent.start [ None ↦ true | Some id ↦ has id (ids_of is) ]

-- no piece lasts beyond the first point of the next one
abbrev pub turns_from : Numbers → PieceEnd → List Begun → Bool
turns_from slots e [] = true
turns_from slots e (s ∷ ss) = nat_le (end_rank slots e) (hold_rank slots s) && turns_from slots s.end ss

abbrev pub ends_in_turn : Numbers → Seen → Bool
ends_in_turn slots v = turns_from slots v.end v.segments

-- Where points are asked for besides: pieces and what is held begin at points of their blocks, pieces are read there and end in turn, and a lane
-- has one cell for a block, for blocks of the function alone.
pub record FindsPoints (m : Matrix) : Type 0 where
  pub order : IsOrdered m
  pub begun : (l k : ℕ) (b : Block) → slice_get m.live.func.blocks k ≡ Some b → begins_here b.instrs (rows_seen m.live.table.rows.rows.items l k) ≡ true
  pub turns : (l k : ℕ) → ends_in_turn m.live.table.order.slots (rows_seen m.live.table.rows.rows.items l k) ≡ true
  pub apart : (l : ℕ) → descends (cells_of m.live.table.rows.rows.items l) ≡ true
  pub placed : (l : ℕ) → list_all (λ c. nat_lt c.block (length m.live.func.blocks)) (cells_of m.live.table.rows.rows.items l) ≡ true
  pub read : (l k : ℕ) (b : Block) → slice_get m.live.func.blocks k ≡ Some b → reads_here b.instrs (rows_seen m.live.table.rows.rows.items l k) ≡ true
  pub held : (u k : ℕ) (b : Block) → slice_get m.live.func.blocks k ≡ Some b → list_all (starts_here b.instrs) (holds m u k) ≡ true
  pub dead : (l k : ℕ) → is_live (causes m.live.table.rows.rows.items l k 0) ≡ false → (rows_seen m.live.table.rows.rows.items l k).end ≡ ends.Never

-- where bundles are asked for, that blocks can be counted and that ways are those of the blocks
pub record FindsWays (f : Function) (x : Table) : Type 0 where
  pub few : length f.blocks < 2147483648
  pub led : are_led f.blocks ≡ true
  pub ways : AreFollowed (successors x.flow.items) f.blocks
