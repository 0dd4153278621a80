-- At which points of blocks lanes are live or occupied, and how many these are. Points go by their ranks; that of a block's start is 0.
use Rattle.std.specs.Prelude.{◌≡◌, ◌<◌, ◌≤◌, ℕ, zero, suc, ◌+◌, Bool, false, cond, ◌&&◌, ◌||◌, nat_eq, List, [], ◌∷◌, Option, None, Some, slice_get, length, max}
use Rattle.std.specs.List.{list_any}
use Rattle.mir_func.specs.declared.func.Block.{Block}
use Rattle.instr_effects.specs.declared.row.LaneSpan.{LaneSpan}
use Rattle.live_lanes.specs.declared.ask.points.LiveSpan.{LiveSpan}
use Rattle.live_lanes.specs.declared.row.LaneRange.{LaneRange}
use Rattle.live_lanes.specs.declared.table.Table.{Table}
use Rattle.live_lanes.specs.Table.{Numbers, Begun, Seen, unseen, entry_rank, exit_rank}
use Rattle.live_lanes.specs.Entered.{rows_seen}
use Rattle.live_lanes.specs.Ordered.{ids_of, AreRising}
use Rattle.live_lanes.specs.Reach.{seen_at}

-- the instruction that begins the piece writes the lane at that point: at its exit, and at its entry too where it does so early
abbrev pub writes_at : Numbers → ℕ → Begun → Bool
writes_at slots at s = nat_eq (exit_rank slots s.start) at || (s.early && nat_eq (entry_rank slots s.start) at)

-- a lane in a block is live or occupied at the point
abbrev pub held_at : Numbers → Seen → ℕ → Bool
held_at slots v at = seen_at slots v at || list_any (writes_at slots at) v.segments

-- the first point at which a lane is occupied by the writing that begins the piece
abbrev pub hold_rank : Numbers → Begun → ℕ
hold_rank slots s = cond s.early (entry_rank slots s.start) (exit_rank slots s.start)

abbrev pub hold_of : Numbers → Option Begun → ℕ
hold_of slots None = 340282366920938463463374607431768211455
hold_of slots (Some s) = hold_rank slots s

-- the same of the piece of that place; where there is none, behind all points
abbrev pub next_rank : Numbers → List Begun → ℕ → ℕ
next_rank slots ss index = hold_of slots (slice_get ss index)

abbrev pub exits_at : Numbers → ℕ → Option Begun → Bool
exits_at slots at None = false
exits_at slots at (Some s) = nat_eq (exit_rank slots s.start) at

-- the piece of that number begins with a writing at the exit that the point is
abbrev pub begins_at : Numbers → ℕ → List Begun → ℕ → Bool
begins_at slots at ss zero = false
begins_at slots at ss (suc k) = exits_at slots at (slice_get ss k)

-- one of so many lanes, whose numbers stand in a row, is
abbrev pub any_held : Numbers → List LaneRange → ℕ → ℕ → ℕ → ℕ → Bool
any_held slots rows first zero b at = false
any_held slots rows first (suc n) b at = held_at slots (rows_seen rows (first + n) b) at || any_held slots rows first n b at

-- the test answers the same from a point on up to before the span's end, which is behind it
pub record IsSpan (test : ℕ → Bool) (at : ℕ) (span : LiveSpan) : Type 0 where
  pub further : at < span.end
  pub same : (x : ℕ) → at ≤ x → x < span.end → test x ≡ span.is_held

abbrev pub one : Bool → ℕ
one b = cond b 1 0

-- how many of the entries and exits of these instructions pass a test of their ranks
abbrev pub inside : Numbers → (ℕ → Bool) → List ℕ → ℕ
inside slots test [] = 0
inside slots test (id ∷ ids) = one (test (entry_rank slots id)) + (one (test (exit_rank slots id)) + inside slots test ids)

-- how many points of a block of these instructions pass it
abbrev pub passing : Numbers → (ℕ → Bool) → List ℕ → ℕ
passing slots test ids = one (test 0) + inside slots test ids

-- the points of the block at a position at which one of the lanes is live or occupied
abbrev pub block_held : Table → List Block → ℕ → ℕ → ℕ → ℕ
block_held x bs first count b = elim (slice_get bs b) [ None ↦ 0 | Some h ↦ passing x.order.slots (any_held x.order.slots x.rows.rows.items first count b) (ids_of h.instrs) ]

-- f 0 + .. + f (n - 1)
abbrev pub sum_below : (ℕ → ℕ) → ℕ → ℕ
sum_below f zero = 0
sum_below f (suc n) = f n + sum_below f n

-- those of all blocks
abbrev pub lanes_held : Table → List Block → Option LaneSpan → ℕ
lanes_held x bs None = 0
lanes_held x bs (Some own) = sum_below (block_held x bs own.first own.count) (length bs)

-- how many points a range has
abbrev pub range_held : Table → List Block → ℕ → ℕ
range_held x bs v = lanes_held x bs (slice_get x.lanes.ranges.items v)

-- the numbers of the instructions rise along each block
abbrev pub AreRanked : Numbers → List Block → Type 0
AreRanked slots bs = (k : ℕ) (b : Block) → slice_get bs k ≡ Some b → AreRising slots 0 (ids_of b.instrs)

-- the last position before the bound, if there is one; what lies between, or else all before the bound, is empty
abbrev pub IsLastBefore : (ℕ → Type 0) → ℕ → Option ℕ → Type 0
IsLastBefore Empty bound None = (b : ℕ) → b < bound → Empty b
IsLastBefore Empty bound (Some r) = (r < bound) × ((b : ℕ) → r < b → b < bound → Empty b)

-- the later one of two positions, where there are such
abbrev pub later_place : Option ℕ → Option ℕ → Option ℕ
later_place None q = q
later_place (Some a) None = Some a
later_place (Some a) (Some b) = Some (max a b)

-- nothing is read, written or live in that block of so many lanes
abbrev pub AreUnseen : List LaneRange → ℕ → ℕ → ℕ → Type 0
AreUnseen rows first count b = (k : ℕ) → k < count → rows_seen rows (first + k) b ≡ unseen
