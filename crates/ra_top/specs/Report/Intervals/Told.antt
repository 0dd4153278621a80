-- What the code prints of ranges, by what the table of live lanes tells.
use Rattle.std.specs.Prelude.{◌≡◌, ◌<◌, ℕ, suc, ◌+◌, ◌*◌, ◌/◌, ◌^◌, true, false, cond, min, List, [], ◌∷◌, ◌++◌, length, Option, None, Some, slice_get, drop}
use Rattle.std.specs.List.{flat_map, filter_map}
use Rattle.target_base.specs.declared.types.Target.{Target}
use Rattle.mir_func.specs.declared.func.Block.{Block}
use Rattle.mir_func.specs.declared.func.Instr.{Instr}
use Rattle.mir_func.specs.declared.func.Operand.{Operand}
use Rattle.mir_func.specs.declared.func.Operand.TheVariants as operands
use Rattle.mir_func.specs.declared.func.RegOp.{RegOp}
use Rattle.mir_func.specs.Value.{Function}
use Rattle.mir_func.specs.Binding.{class_of}
use Rattle.mir_meaning.specs.Points.{is_range, counts}
use Rattle.mir_meaning.specs.Registers.{numbers}
use Rattle.block_freq.specs.Weights.{use_sum}
use Rattle.instr_effects.specs.declared.owner.Owner.TheVariants as owners
use Rattle.instr_effects.specs.Numbered.{number_in}
use Rattle.live_lanes.specs.declared.ask.extent.Extent.{Extent}
use Rattle.live_lanes.specs.declared.row.Cell.{Cell}
use Rattle.live_lanes.specs.declared.table.Table.{Table}
use Rattle.live_lanes.specs.Table.{Numbers}
use Rattle.live_lanes.specs.Entered.{piece_count}
use Rattle.live_lanes.specs.Extents.{lanes_count, extent_in}
use Rattle.live_lanes.specs.Held.{range_held, AreRanked}
use Rattle.live_lanes.specs.Looks.{InOrder}
use Rattle.live_lanes.specs.Ordered.{ids_of, AreRising}
use Rattle.interval_laws.specs.Segments.{Mark, Segment, behind}
use Rattle.interval_laws.specs.Told.{start_number, cell_segments, told_segments}
use Rattle.ra_top.specs.declared.report.intervals.parts.Point.{Point}
use Rattle.ra_top.specs.declared.report.intervals.segments.NumberedBlock.{NumberedBlock}
use Rattle.ra_top.specs.declared.report.intervals.uses.Use.{Use}
use Rattle.ra_top.specs.Report.Intervals.Lines.{function_line, block_lines, is_named, range_line, class_text, lane_line}

-- numbers of blocks' starts, from n on, and the one behind the last instruction
abbrev pub start_numbers : ℕ → List Block → List ℕ
start_numbers n [] = n ∷ []
start_numbers n (b ∷ bs) = n ∷ start_numbers (behind n b) bs

-- the numbers of these blocks fit 128 bits
abbrev pub AreShort : List Block → Type 0
AreShort bs = start_number bs (length bs) < 2 ^ 128

-- the numbers of instructions rise along the block, and those that are written fit 128 bits
pub record IsHere (h : NumberedBlock) : Type 0 where
  pub rising : AreRising h.live.now.table.order.slots 0 (ids_of h.instrs.now)
  pub short : h.start + 16 * suc (length h.instrs.now) < 2 ^ 128

-- what is printed rests on this: the table stands in order, and numbers are small enough
pub record IsReady (x : Table) (bs : List Block) : Type 0 where
  pub ordered : InOrder x
  pub ranked : AreRanked x.order.slots bs
  pub few : (v : ℕ) → range_held x bs v < 2 ^ 64
  pub short : AreShort bs

-- a point at an end of a segment, as it is written
abbrev pub mark_of : Point → Mark
mark_of p = (p.number, p.letter)

-- the extents of a cell, if there is one
abbrev pub extents_of : Option Cell → List Extent
extents_of o = filter_map (extent_in o) (numbers 0 (piece_count o))

-- the segments of a cell, if there is one
abbrev pub place_segments : Numbers → List Block → Option Cell → List Segment
place_segments slots bs None = []
place_segments slots bs (Some c) = cell_segments slots bs c

-- the segments of a lane of a range, if it has a number
abbrev pub range_segments : Table → List Block → ℕ → ℕ → List Segment
range_segments x bs v k = elim (number_in x.lanes (owners.Range v k)) [ None ↦ [] | Some n ↦ told_segments x bs n ]

-- how often a range is used

-- the greatest sum
abbrev pub most : ℕ
most = 340282366920938463463374607431768211455

abbrev pub with_register : ℕ → ℕ → RegOp → Use → Use
with_register freq v o u = cond (is_range v o.loc) (record { is_named = true; sum = cond (counts o) (min (u.sum + freq) most) u.sum }) u

abbrev pub with_operand : ℕ → ℕ → Operand → Use → Use
with_operand freq v (operands.Reg o) u = with_register freq v o u
with_operand freq v _ u = u

abbrev pub with_operands : ℕ → ℕ → List Operand → Use → Use
with_operands freq v [] u = u
with_operands freq v (o ∷ os) u = with_operands freq v os (with_operand freq v o u)

abbrev pub with_instrs : ℕ → ℕ → List Instr → Use → Use
with_instrs freq v [] u = u
with_instrs freq v (i ∷ is) u = with_instrs freq v is (with_operands freq v i.operands u)

abbrev pub first_freq : List ℕ → ℕ
first_freq [] = 0
first_freq (n ∷ ns) = n

-- blocks of which each has its frequency, or 0 where there is none
abbrev pub with_blocks : List ℕ → ℕ → List Block → Use → Use
with_blocks freqs v [] u = u
with_blocks freqs v (b ∷ bs) u = with_blocks (drop 1 freqs) v bs (with_instrs (first_freq freqs) v b.instrs u)

abbrev pub unused : Use
unused = record { is_named = false; sum = 0 }

-- the uses of each range
abbrev pub AreUses : List ℕ → List Block → List Use → Type 0
AreUses freqs bs uses = (v : ℕ) → v < length uses → slice_get uses v ≡ Some (record { is_named = is_named v bs; sum = min (use_sum bs freqs v) most })

-- the lines of a range that an operand names, where its uses have this sum
abbrev pub named_lines : Target → Table → Function → ℕ → ℕ → List ℕ
named_lines t x f v sum =
    range_line v (class_text t (class_of f v)) (min (sum * 1024) most / (range_held x f.blocks v + 8)) ++ flat_map (λ k. lane_line k (range_segments x f.blocks v k)) (numbers 0 (lanes_count (slice_get x.lanes.ranges.items v)))

-- the lines of a range that is used so often
abbrev pub used_lines : Target → Table → Function → ℕ → Use → List ℕ
used_lines t x f v own = cond own.is_named (named_lines t x f v own.sum) []

-- those of ranges from v on
abbrev pub uses_lines : Target → Table → Function → ℕ → List Use → List ℕ
uses_lines t x f v [] = []
uses_lines t x f v (own ∷ uses) = used_lines t x f v own ++ uses_lines t x f (suc v) uses

-- a text is the lines of the ranges, by their uses
pub record AreRangeLines (t : Target) (x : Table) (f : Function) (freqs text : List ℕ) : Type 0 where
  pub uses : List Use
  pub right : AreUses freqs f.blocks uses
  pub all : length uses ≡ length f.classes
  pub is : text ≡ uses_lines t x f 0 uses

-- a text is that of a function of a name, whose blocks run so often
pub record IsToldText (t : Target) (x : Table) (f : Function) (name freqs text : List ℕ) : Type 0 where
  pub ranges : List ℕ
  pub lines : AreRangeLines t x f freqs ranges
  pub is : text ≡ function_line name ++ (block_lines freqs f.blocks ++ ranges)
