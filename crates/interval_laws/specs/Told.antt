-- The segments of lanes as a table of live lanes tells them.
use Rattle.std.specs.Prelude.{ℕ, zero, suc, ◌+◌, ◌*◌, Bool, false, cond, nat_eq, nat_lt, List, [], ◌∷◌, ◌++◌, map, length, None, Some, slice_get}
use Rattle.mir_func.specs.declared.func.Instr.{Instr}
use Rattle.mir_func.specs.declared.func.Block.{Block}
use Rattle.mir_meaning.specs.Points.{Point, Start, Entry, Exit}
use Rattle.instr_effects.specs.declared.owner.Owner.TheVariants as owners
use Rattle.instr_effects.specs.Numbered.{number_in}
use Rattle.live_laws.specs.Effects.Coded.{spot_in}
use Rattle.live_lanes.specs.declared.ask.extent.Extent.{Extent}
use Rattle.live_lanes.specs.declared.row.Cell.{Cell}
use Rattle.live_lanes.specs.declared.table.Table.{Table}
use Rattle.live_lanes.specs.Table.{Numbers, leading, entry_rank, exit_rank}
use Rattle.live_lanes.specs.Ordered.{place_of}
use Rattle.live_lanes.specs.Entered.{rows_seen, cells_of}
use Rattle.live_lanes.specs.Held.{held_at}
use Rattle.live_lanes.specs.Looks.{entry_at, exit_at}
use Rattle.live_lanes.specs.Extents.{cell_extents, first_rank, last_rank}
use Rattle.interval_laws.specs.Segments.{Mark, at_border, at_instr, at_early, at_exit, Segment}

-- the number of the start of the block at a position, or behind the last block
abbrev pub start_number : List Block → ℕ → ℕ
start_number [] k = 0
start_number (b ∷ bs) zero = 0
start_number (b ∷ bs) (suc k) = 16 * suc (length b.instrs) + start_number bs k

-- the number of the instruction at whose entry or exit the point of that rank lies, in a block of these instructions that has
-- number n
abbrev pub number_at : Numbers → ℕ → List Instr → ℕ → ℕ
number_at slots n is at = n + 16 * suc (leading (λ i. nat_lt (exit_rank slots i.id) at) is)

-- the extent has no point behind the exit of the instruction that begins it
abbrev pub is_only_written : Numbers → Extent → Bool
is_only_written slots e = elim e.start [ None ↦ false | Some id ↦ nat_eq (last_rank slots e) (exit_rank slots id) ]

-- how its first point is written
abbrev pub first_mark : Numbers → ℕ → List Instr → Extent → Mark
first_mark slots n is e = elim e.start [
  | None ↦ at_border n
  | Some id ↦ cond (nat_eq (first_rank slots e) (entry_rank slots id)) (at_early (number_at slots n is (first_rank slots e))) (at_instr (number_at slots n is (first_rank slots e)))
]

-- how its last point is written
abbrev pub last_mark : Numbers → ℕ → ℕ → List Instr → Extent → Mark
last_mark slots n end is e =
    cond (nat_eq (last_rank slots e) 340282366920938463463374607431768211455) (at_border end)
    (cond (is_only_written slots e) (at_exit (number_at slots n is (last_rank slots e))) (at_instr (number_at slots n is (last_rank slots e))))

abbrev pub extent_segment : Numbers → ℕ → ℕ → List Instr → Extent → Segment
extent_segment slots n end is e = (first_mark slots n is e, last_mark slots n end is e)

-- those of a lane's cell; none where its block isn't one of the function
abbrev pub cell_segments : Numbers → List Block → Cell → List Segment
cell_segments slots bs c = elim (slice_get bs c.block) [
  | None ↦ []
  | Some b ↦ map (extent_segment slots (start_number bs c.block) (start_number bs (suc c.block)) b.instrs) (cell_extents c)
]

-- those of cells that stand from the last block to the first, in layout
abbrev pub cells_segments : Numbers → List Block → List Cell → List Segment
cells_segments slots bs [] = []
cells_segments slots bs (c ∷ cs) = cells_segments slots bs cs ++ cell_segments slots bs c

-- those of the lane of that number
abbrev pub told_segments : Table → List Block → ℕ → List Segment
told_segments x bs n = cells_segments x.order.slots bs (cells_of x.rows.rows.items n)

-- the lane of that number is live at the point
abbrev pub number_live : Table → List Block → ℕ → Point → Bool
number_live x bs n (Start m) = elim (place_of m bs) [ None ↦ false | Some p ↦ held_at x.order.slots (rows_seen x.rows.rows.items n p) 0 ]
number_live x bs n (Entry id) = elim (spot_in id bs) [ None ↦ false | Some p ↦ entry_at x (Some n) id ]
number_live x bs n (Exit id) = elim (spot_in id bs) [ None ↦ false | Some p ↦ exit_at x (Some n) id ]

-- the lane of the range is, if it has a number
abbrev pub told_live : Table → List Block → ℕ → ℕ → Point → Bool
told_live x bs v k p = elim (number_in x.lanes (owners.Range v k)) [ None ↦ false | Some n ↦ number_live x bs n p ]
