-- What the table of live lanes tells of a join: whether it loses a value.
use Rattle.std.specs.Prelude.{◌≡◌, ◌&&◌, ◌||◌, ◌-◌, ℕ, Bool, true, false, cond, not, max, nat_eq, nat_le, List, position, Option, None, Some, option_map, slice_get}
use Rattle.std.specs.List.{list_all}
use Rattle.target_base.specs.declared.types.IndexId.{IndexId}
use Rattle.target_base.specs.declared.types.Target.{Target}
use Rattle.target_base.specs.Registers.{lanes_of}
use Rattle.mir_func.specs.declared.func.RegOp.{RegOp}
use Rattle.mir_meaning.specs.Points.{is_range}
use Rattle.instr_effects.specs.Numbered.{number_in}
use Rattle.instr_effects.specs.declared.owner.Owner.TheVariants as owners
use Rattle.live_lanes.specs.declared.live.LiveFunc.{LiveFunc}
use Rattle.live_lanes.specs.declared.ask.extent.Stretch.{Stretch}
use Rattle.live_lanes.specs.Table.{Begun, Numbers, Seen, end_rank, entry_rank, exit_rank, piece_at}
use Rattle.live_lanes.specs.Entered.{rows_seen}
use Rattle.live_lanes.specs.Held.{begins_at}
use Rattle.live_lanes.specs.Reach.{seen_at}
use Rattle.live_edits.specs.declared.fold.Join.{Join}
use Rattle.join_laws.specs.Joined.{join_at}
use Rattle.join_laws.specs.Quiet.{IsQuiet}
use Rattle.coalescer.specs.Coalescing.{MayCoalesce, instr_of, sides_in}

-- the place of a lane among those of an index; its number without one
abbrev pub place_in : Target → Option IndexId → ℕ → Option ℕ
place_in t None k = Some k
place_in t (Some x) k = position (λ l. nat_eq l k) (lanes_of t x)

-- the lane at a place among those of an index
abbrev pub lane_in : Target → Option IndexId → ℕ → Option ℕ
lane_in t None k = Some k
lane_in t (Some x) k = slice_get (lanes_of t x) k

-- the lane of the other range, with its range, that becomes one with lane k of range v
abbrev pub partner : Target → Join → ℕ → ℕ → Option (ℕ × ℕ)
partner t j v k = cond (nat_eq v j.keep) (option_map (λ i. (j.gone, i)) (place_in t j.index k)) (option_map (λ i. (j.keep, i)) (lane_in t j.index k))

abbrev pub same_place : Option ℕ → Option ℕ → Bool
same_place (Some p) (Some q) = nat_eq p q
same_place _ _ = false

-- a copy with these sides copies the first lane, of a range, from the second
abbrev pub copies_lane : Target → Option (RegOp × RegOp) → ℕ × ℕ → ℕ × ℕ → Bool
copies_lane t None a b = false
copies_lane t (Some p) a b = is_range a.0 p.0.loc && is_range b.0 p.1.loc && same_place (place_in t p.0.index a.1) (place_in t p.1.index b.1)

-- the lane is written at the exit that the point of that rank is
abbrev pub is_written_at : Numbers → Seen → ℕ → Bool
is_written_at slots v at = begins_at slots at v.segments (piece_at slots at v.segments)

-- a lane isn't live behind the writing of another one in its block, nor written by the same instruction; nor is it live before it, where the writing is early
abbrev pub is_apart : Numbers → Seen → Begun → Bool
is_apart slots v s = not (seen_at slots v (exit_rank slots s.start)) && not (is_written_at slots v (exit_rank slots s.start)) && not (s.early && seen_at slots v (entry_rank slots s.start))

-- a writing of the first lane loses no value of the second, which stands so in the block
abbrev pub is_quiet_writing : Target → LiveFunc → ℕ × ℕ → ℕ × ℕ → Seen → Begun → Bool
is_quiet_writing t x a b v s =
    is_apart x.table.order.slots v s || copies_lane t (sides_in t (instr_of x.func s.start)) a b || copies_lane t (sides_in t (instr_of x.func s.start)) a a

-- nor does any writing of it in the block at a position, by the numbers of the lanes
abbrev pub is_quiet_in : Target → LiveFunc → ℕ × ℕ → ℕ → ℕ × ℕ → ℕ → ℕ → Bool
is_quiet_in t x a n b m p = list_all (is_quiet_writing t x a b (rows_seen x.table.rows.rows.items m p)) (rows_seen x.table.rows.rows.items n p).segments

-- nor does any writing of it, if both lanes have numbers

abbrev pub IsQuietNumbered : Target → LiveFunc → ℕ × ℕ → ℕ → ℕ × ℕ → Type 0
IsQuietNumbered t x a n b = (m : ℕ) → number_in x.table.lanes (owners.Range b.0 b.1) ≡ Some m → (p : ℕ) → is_quiet_in t x a n b m p ≡ true

abbrev pub IsQuietTo : Target → LiveFunc → ℕ × ℕ → ℕ × ℕ → Type 0
IsQuietTo t x a b = (n : ℕ) → number_in x.table.lanes (owners.Range a.0 a.1) ≡ Some n → IsQuietNumbered t x a n b

-- nor does any writing of lane k of range v, if it becomes one with another lane
abbrev pub IsQuietLane : Target → LiveFunc → Join → ℕ → ℕ → Type 0
IsQuietLane t x j v k = (b : ℕ × ℕ) → partner t j v k ≡ Some b → IsQuietTo t x (v, k) b

-- by the table the join loses no value
abbrev pub AsksQuiet : Target → LiveFunc → Join → Type 0
AsksQuiet t x j = ((k : ℕ) → IsQuietLane t x j j.keep k) × ((k : ℕ) → IsQuietLane t x j j.gone k)

-- the table tells exactly of each join that a copy asks for whether it loses a value
abbrev pub TellsQuiet : Type 0
TellsQuiet =
    (t : Target) (x : LiveFunc) (id : ℕ) (j : Join) → MayCoalesce t x → join_at t x.func id ≡ Some j
    → (AsksQuiet t x j → IsQuiet t x.func j) × (IsQuiet t x.func j → AsksQuiet t x j)

-- the points of a piece of a lane in a block, by its number, and those of the writing that begins it

abbrev pub segment_stretch : Numbers → Option Begun → Stretch
segment_stretch slots None = record { first = 0; last = 0 }
segment_stretch slots (Some s) = record { first = exit_rank slots s.start; last = max (end_rank slots s.end) (exit_rank slots s.start) }

abbrev pub piece_stretch : Numbers → Seen → ℕ → Stretch
piece_stretch slots v index = cond (nat_eq index 0) (record { first = 0; last = end_rank slots v.end }) (segment_stretch slots (slice_get v.segments (index - 1)))

-- the entry or the exit of the writing may be one of these points
abbrev pub is_within : Numbers → Stretch → Begun → Bool
is_within slots at s = nat_le at.first (exit_rank slots s.start) && nat_le (entry_rank slots s.start) at.last

-- the first writing whose exit is at the point or behind it
abbrev pub first_writing : Numbers → ℕ → List Begun → ℕ
first_writing slots at ss = cond (nat_eq at 0) 0 (piece_at slots (at - 1) ss)

-- what is found of the writings of a lane at these points: where it is yes, each of them passes the test; where it is no, one doesn't
abbrev pub IsFoundOf : Numbers → (Begun → Bool) → Stretch → List Begun → Bool → Type 0
IsFoundOf slots test at ss found = (found ≡ true → list_all (λ s. not (is_within slots at s) || test s) ss ≡ true) × (found ≡ false → list_all test ss ≡ false)
