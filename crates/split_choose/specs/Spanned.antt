-- What the spans of a range tell of it, block by block.
use Rattle.std.specs.Prelude.{◌≡◌, ◌⊎◌, ℕ, ◌*◌, Bool, true, false, ◌&&◌, ◌||◌, nat_eq, nat_le, List, filter, map, length, Option, None, Some, slice_get, slice_index_or}
use Rattle.std.specs.List.{list_all, list_any, sum_by}
use Rattle.std.specs.Ordering.{nat_cmp}
use Rattle.std.specs.List.Sorted.{IsStrictlySortedBy}
use Rattle.meaning.specs.Live.{Among}
use Rattle.mir_func.specs.declared.func.Instr.{Instr}
use Rattle.mir_func.specs.declared.func.Block.{Block}
use Rattle.mir_func.specs.Binding.{does, is_terminator}
use Rattle.block_freq.specs.Weights.{naming}
use Rattle.live_lanes.specs.declared.ask.extent.Stretch.{Stretch}
use Rattle.live_lanes.specs.declared.row.Cell.{Cell}
use Rattle.live_lanes.specs.declared.table.Table.{Table}
use Rattle.live_lanes.specs.Table.{Numbers, find_cell, entry_rank, exit_rank}
use Rattle.live_lanes.specs.Graph.{is_live}
use Rattle.live_lanes.specs.Entered.{causes, cells_of, rows_seen}
use Rattle.live_lanes.specs.Extents.{is_met_in}
use Rattle.live_lanes.specs.Touching.{some_lane, leaves_block}
use Rattle.interference.specs.declared.matrix.Matrix.{Matrix}
use Rattle.split_choose.specs.declared.spans.Span.{Span}
use Rattle.split_choose.specs.Seen.{only}
use Rattle.split_choose.specs.Spans.{AreSpans}
use Rattle.split_choose.specs.Regions.{capped, ArePositions}

-- the points of a span
abbrev pub is_covered : List Stretch → ℕ → Bool
is_covered ss at = list_any (λ s. nat_le s.first at && nat_le at s.last) ss

-- the number is that of the block's start, or of the entry or the exit of one of these instructions
abbrev pub is_rank_in : Numbers → List Instr → ℕ → Bool
is_rank_in slots is at = nat_eq at 0 || list_any (λ i. nat_eq at (entry_rank slots i.id) || nat_eq at (exit_rank slots i.id)) is

-- the stretch begins at such a point
abbrev pub begins_at_point : Numbers → List Instr → Stretch → Bool
begins_at_point slots is s = is_rank_in slots is s.first

-- the span tells of the range in the block at its position
pub record IsSpan (m : Matrix) (v : ℕ) (freqs : List ℕ) (s : Span) : Type 0 where
  pub block : Block
  pub found : slice_get m.live.func.blocks s.position ≡ Some block
  pub live_in : s.is_live_in ≡ some_lane m.live.table v (λ l. is_live (causes m.live.table.rows.rows.items l s.position 0))
  pub live_out : s.is_live_out ≡ leaves_block m.live.table v s.position (Some block)
  pub frequency : s.frequency ≡ slice_index_or freqs s.position 0
  pub uses : s.uses ≡ capped (s.frequency * sum_by (naming v) block.instrs)
  pub end_uses : s.end_uses ≡ capped (s.frequency * sum_by (naming v) (filter (does is_terminator m.live.target) block.instrs))
  pub covered : (at : ℕ) → is_covered s.stretches.items at ≡ some_lane m.live.table v (λ l. is_met_in m.live.table.order.slots (rows_seen m.live.table.rows.rows.items l s.position) (only at))
  pub begun : list_all (begins_at_point m.live.table.order.slots block.instrs) s.stretches.items ≡ true

-- one of the spans is that of the block at a position
pub record HasSpan (spans : List Span) (k : ℕ) : Type 0 where
  pub span : Span
  pub among : Among span spans
  pub there : span.position ≡ k

abbrev pub is_cell : Option Cell → Bool
is_cell None = false
is_cell (Some c) = true

-- some lane of the range is named or live in the block at a position
abbrev pub is_in_block : Table → ℕ → ℕ → Bool
is_in_block x v k = some_lane x v (λ l. is_cell (find_cell k (cells_of x.rows.rows.items l)))

-- the spans of a range: in layout order, each block once, and each block that a lane of the range is named or live in
pub record AreSpansOf (m : Matrix) (v : ℕ) (freqs : List ℕ) (spans : List Span) : Type 0 where
  pub order : IsStrictlySortedBy nat_cmp (map (λ s. s.position) spans)
  pub each : (s : Span) → Among s spans → IsSpan m v freqs s
  pub all : (k : ℕ) → HasSpan spans k ⊎ (is_in_block m.live.table v k ≡ false)
  pub stretches : AreSpans spans
  pub positions : ArePositions (length m.live.func.blocks) spans
