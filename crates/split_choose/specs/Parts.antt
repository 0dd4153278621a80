-- The part of a range in a register, over the blocks of the range, and what it costs.
use Rattle.std.specs.Prelude.{◌≡◌, ◌<◌, ℕ, List, [], ◌∷◌, map, filter, flat_map, length, nat_lt, Option, None, Some, slice_get}
use Rattle.target_base.specs.declared.types.Reg.{Reg}
use Rattle.target_base.specs.declared.types.Target.{Target}
use Rattle.mir_func.specs.declared.func.Block.{Block}
use Rattle.mir_func.specs.Value.{Function}
use Rattle.live_lanes.specs.declared.ask.labels.Mark.{Mark}
use Rattle.interference.specs.declared.matrix.Matrix.{Matrix}
use Rattle.interference.specs.Clashes.{IsOrdered}
use Rattle.split_choose.specs.declared.spans.Span.{Span}
use Rattle.split_choose.specs.declared.regions.InsidePart.{InsidePart}
use Rattle.split_choose.specs.declared.regions.InsidePart.TheVariants as places
use Rattle.split_choose.specs.declared.regions.RegionCandidate.{RegionCandidate}
use Rattle.split_choose.specs.Bundles.{AreEarlier}
use Rattle.split_choose.specs.Spans.{AreSpans, is_clear_in}
use Rattle.split_choose.specs.Offers.{View, Inside as Lies, Nowhere, Whole, Head, Tail, inside_marks}
use Rattle.split_choose.specs.Regions.{ArePositions, inside_in, capped, uses_of, costs_of}

-- the matrix is in order, and the blocks of the range are some of the function's
pub record IsReady (m : Matrix) (parents : List ℕ) (spans : List Span) : Type 0 where
  pub order : IsOrdered m
  pub few : length m.live.func.blocks < 2147483648
  pub positions : ArePositions (length m.live.func.blocks) spans
  pub stretches : AreSpans spans
  pub earlier : AreEarlier parents

-- where the part in a register lies in a block
abbrev pub part_in : Matrix → ℕ → List ℕ → List Span → Reg → Span → InsidePart
part_in m v parents spans r = inside_in parents (is_clear_in m v r) spans

-- what it costs
abbrev pub part_cost : Matrix → ℕ → List ℕ → List Span → Reg → ℕ
part_cost m v parents spans r = capped (costs_of (part_in m v parents spans r) spans)

-- the offer is that part
pub record IsPart (m : Matrix) (v : ℕ) (parents : List ℕ) (spans : List Span) (r : Reg) (o : RegionCandidate) : Type 0 where
  pub register : o.register ≡ r
  pub insides : o.insides.items ≡ map (part_in m v parents spans r) spans
  pub cost : o.cost ≡ part_cost m v parents spans r

-- the registers whose parts cost less than the range does, with these costs
abbrev pub parts_of : Matrix → ℕ → List ℕ → List Span → List Reg → List (ℕ × Reg)
parts_of m v parents spans rs = filter (λ c. nat_lt c.0 (capped (uses_of spans))) (map (λ r. (part_cost m v parents spans r, r)) rs)

-- the offer is the part of that cost and register; none where there is no such
abbrev pub IsBest : Matrix → ℕ → List ℕ → List Span → Option (ℕ × Reg) → Option RegionCandidate → Type 0
IsBest m v parents spans best None = best ≡ None
IsBest m v parents spans best (Some o) = (best ≡ Some (o.cost, o.register)) × IsPart m v parents spans o.register o

-- the same place in a block
abbrev pub as_inside : InsidePart → Lies
as_inside places.Nowhere = Nowhere
as_inside places.All = Whole
as_inside places.Start = Head
as_inside places.End = Tail

-- the marks of the block, if there is one
abbrev pub marks_there : Target → Function → ℕ → View → Option Block → InsidePart → List Mark
marks_there t f v view None i = []
marks_there t f v view (Some b) i = inside_marks t f v view b (as_inside i)

-- those of the blocks of spans, of each of which it is told where it lies
abbrev pub marks_of : Target → Function → ℕ → View → (Span → InsidePart) → List Span → List Mark
marks_of t f v view inside spans = flat_map (λ s. marks_there t f v view (slice_get f.blocks s.position) (inside s)) spans

-- the register of a part with the marks of these blocks
abbrev pub marked : Target → Function → ℕ → View → (Reg → Span → InsidePart) → List Span → ℕ × Reg → Reg × List Mark
marked t f v view inside spans c = (c.1, marks_of t f v view (inside c.1) spans)
