-- How the spans of a range are put together.
use Rattle.std.specs.Prelude.{ℕ, suc, ◌+◌, ◌*◌, Bool, false, cond, ◌||◌, nat_eq, List, [], ◌∷◌, map, flat_map, filter_map, option_map, fold, Option, None, Some, slice_get, slice_index_or}
use Rattle.std.specs.List.{list_any}
use Rattle.std.specs.Ordering.{nat_cmp}
use Rattle.std.specs.List.Sorted.{IsStrictlySortedBy}
use Rattle.target_base.specs.declared.types.Target.{Target}
use Rattle.mir_func.specs.declared.func.Instr.{Instr}
use Rattle.mir_meaning.specs.Registers.{numbers}
use Rattle.mir_func.specs.Binding.{does, is_terminator}
use Rattle.block_freq.specs.Weights.{naming}
use Rattle.instr_effects.specs.Numbered.{number_in}
use Rattle.instr_effects.specs.declared.owner.Owner.TheVariants as owners
use Rattle.live_lanes.specs.declared.ask.extent.Stretch.{Stretch}
use Rattle.live_lanes.specs.declared.live.LiveFunc.{LiveFunc}
use Rattle.live_lanes.specs.declared.row.Cell.{Cell}
use Rattle.live_lanes.specs.declared.table.Table.{Table}
use Rattle.live_lanes.specs.Table.{Numbers}
use Rattle.live_lanes.specs.Graph.{is_live}
use Rattle.live_lanes.specs.Entered.{causes, cells_of, piece_count}
use Rattle.live_lanes.specs.Extents.{lanes_count, extent_in, stretch_of}
use Rattle.live_lanes.specs.Touching.{some_lane, leaves_block}
use Rattle.split_choose.specs.declared.spans.Span.{Span}
use Rattle.split_choose.specs.Places.{Site, sites_from}
use Rattle.split_choose.specs.Regions.{capped}

-- what a span tells; of its points, which tests some stretch of them passes
pub record Told : Type 0 where
  pub position : ℕ
  pub stretches : (Stretch → Bool) → Bool
  pub live_in : Bool
  pub live_out : Bool
  pub frequency : ℕ
  pub uses : ℕ
  pub end_uses : ℕ

abbrev pub told : Span → Told
told s = record { position = s.position; stretches = λ p. list_any p s.stretches.items; live_in = s.is_live_in; live_out = s.is_live_out; frequency = s.frequency; uses = s.uses; end_uses = s.end_uses }

-- the positions rise
abbrev pub Rise : List Span → Type 0
Rise spans = IsStrictlySortedBy nat_cmp (map (λ s. s.position) spans)

-- the place of the first span of a block
abbrev pub span_place : ℕ → List Span → Option ℕ
span_place k [] = None
span_place k (s ∷ ss) = cond (nat_eq s.position k) (Some 0) (option_map (λ n. suc n) (span_place k ss))

-- nothing but where it lies, and how often it is entered
abbrev pub blank : LiveFunc → ℕ → ℕ → ℕ → Told
blank live v frequency k = record {
  position = k;
  stretches = λ p. false;
  live_in = some_lane live.table v (λ l. is_live (causes live.table.rows.rows.items l k 0));
  live_out = leaves_block live.table v k (slice_get live.func.blocks k);
  frequency = frequency;
  uses = 0;
  end_uses = 0;
}

-- the positions of the blocks in which a lane is named or live
abbrev pub lane_positions : Table → Option ℕ → List ℕ
lane_positions x None = []
lane_positions x (Some l) = map (λ c. c.block) (cells_of x.rows.rows.items l)

-- those of so many lanes of a range
abbrev pub range_positions : Table → ℕ → ℕ → List ℕ
range_positions x v n = flat_map (λ j. lane_positions x (number_in x.lanes (owners.Range v j))) (numbers 0 n)

-- the points of so many pieces of a cell
abbrev pub piece_stretches : Numbers → Option Cell → ℕ → List Stretch
piece_stretches slots c n = map (stretch_of slots) (filter_map (extent_in c) (numbers 0 n))

-- those of all its pieces
abbrev pub cell_stretches : Numbers → Option Cell → List Stretch
cell_stretches slots c = piece_stretches slots c (piece_count c)

-- those that the cell has in the block at a position
abbrev pub stretches_at : Numbers → ℕ → Cell → List Stretch
stretches_at slots k c = cond (nat_eq k c.block) (cell_stretches slots (Some c)) []

-- those that these cells have there
abbrev pub cells_stretches : Numbers → List Cell → ℕ → List Stretch
cells_stretches slots cs k = flat_map (stretches_at slots k) cs

-- those of a lane
abbrev pub lane_stretches : Table → ℕ → Option ℕ → List Stretch
lane_stretches x k None = []
lane_stretches x k (Some l) = cells_stretches x.order.slots (cells_of x.rows.rows.items l) k

-- those of so many lanes of a range
abbrev pub range_stretches : Table → ℕ → ℕ → ℕ → List Stretch
range_stretches x v n k = flat_map (λ j. lane_stretches x k (number_in x.lanes (owners.Range v j))) (numbers 0 n)

-- the span with more points
abbrev pub stretched : List Stretch → Told → Told
stretched ss s = record s { stretches = λ p. s.stretches p || list_any p ss }

-- each span with those that its block has more
abbrev pub with_stretches : (ℕ → List Stretch) → Told → Told
with_stretches f s = stretched (f s.position) s

-- the instruction's operands
abbrev pub counted : Target → ℕ → Instr → Told → Told
counted t v i s = record s { uses = capped (s.uses + s.frequency * naming v i); end_uses = cond (does is_terminator t i) (capped (s.end_uses + s.frequency * naming v i)) s.end_uses }

-- those of an instruction in its block
abbrev pub used : Target → ℕ → Site → Told → Told
used t v site s = cond (nat_eq s.position site.position) (counted t v site.instr s) s

-- spans with all points of a range, and with the uses of these instructions
abbrev pub filled : LiveFunc → ℕ → List Site → List Told → List Told
filled live v ss ts = fold (λ rs s. map (used live.target v s) rs) (map (with_stretches (range_stretches live.table v (lanes_count (slice_get live.table.lanes.ranges.items v)))) ts) ss

-- all that a block's span tells
abbrev pub whole : LiveFunc → ℕ → List ℕ → ℕ → Told
whole live v freqs k = fold (λ r s. used live.target v s r) (with_stretches (range_stretches live.table v (lanes_count (slice_get live.table.lanes.ranges.items v))) (blank live v (slice_index_or freqs k 0) k)) (sites_from v 0 live.func.blocks)
