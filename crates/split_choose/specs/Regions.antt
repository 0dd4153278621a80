-- What a part of a range in a register is, over the blocks of the range.
use Rattle.std.specs.Prelude.{◌≡◌, ◌<◌, ℕ, ◌+◌, Bool, true, false, cond, not, ◌&&◌, ◌||◌, nat_eq, nat_lt, List, length, min, slice_index_or}
use Rattle.std.specs.List.{list_all, list_any, sum_by}
use Rattle.split_choose.specs.declared.spans.Span.{Span}
use Rattle.split_choose.specs.declared.regions.InsidePart.{InsidePart}
use Rattle.split_choose.specs.declared.regions.InsidePart.TheVariants as insides
use Rattle.split_choose.specs.Bundles.{start_of, end_of, root_of}

-- sums that would not fit stay at the greatest number
abbrev pub capped : ℕ → ℕ
capped n = min n 340282366920938463463374607431768211455

-- what the range costs in its blocks
abbrev pub uses_of : List Span → ℕ
uses_of spans = sum_by (λ s. s.uses) spans

-- what a block costs
abbrev pub span_cost : Span → InsidePart → ℕ
span_cost s insides.Nowhere = s.uses
span_cost s insides.All = 0
span_cost s insides.Start = capped (s.frequency + s.end_uses)
span_cost s insides.End = s.frequency

-- the range is live at a border of the block that is in the bundle for which a border stands
abbrev pub is_bordered : List ℕ → ℕ → Span → Bool
is_bordered parents root s = s.is_live_in && nat_eq (root_of parents (start_of s.position)) root || s.is_live_out && nat_eq (root_of parents (end_of s.position)) root

-- and the block isn't clear
abbrev pub bars : List ℕ → (Span → Bool) → ℕ → Span → Bool
bars parents clear root s = not (clear s) && is_bordered parents root s

-- the flags of the bundles that a block borders on are set
pub record Sets (parents : List ℕ) (s : Span) (old new : List Bool) : Type 0 where
  pub size : length new ≡ length old
  pub told : (root : ℕ) → root < length old → slice_index_or new root false ≡ slice_index_or old root false || is_bordered parents root s

-- the bundle of a border is out: some block bars it
abbrev pub is_out : List ℕ → (Span → Bool) → List Span → ℕ → Bool
is_out parents clear spans border = list_any (bars parents clear (root_of parents border)) spans

-- for the border that stands for each of so many borders' bundles, whether the bundle is out
pub record AreOut (parents : List ℕ) (clear : Span → Bool) (spans : List Span) (count : ℕ) (flags : List Bool) : Type 0 where
  pub size : length flags ≡ count
  pub told : (root : ℕ) → root < count → slice_index_or flags root false ≡ list_any (bars parents clear root) spans

-- where a block lies, by whether it is clear, and whether it starts and ends in bundles that are out
abbrev pub inside_at : (clear starts_out ends_out : Bool) → Span → InsidePart
inside_at clear starts_out ends_out s =
    cond (not clear || nat_eq (length s.stretches.items) 0) insides.Nowhere
    (cond (not (s.is_live_in && starts_out) && not (s.is_live_out && ends_out)) insides.All
    (cond (s.is_live_in && not starts_out) insides.Start
    (cond (s.is_live_out && not ends_out) insides.End insides.Nowhere)))

-- what the blocks cost, of each of which it is told where it lies
abbrev pub costs_of : (Span → InsidePart) → List Span → ℕ
costs_of inside spans = sum_by (λ s. span_cost s (inside s)) spans

-- the positions of blocks are below a number
abbrev pub ArePositions : ℕ → List Span → Type 0
ArePositions count spans = list_all (λ s. nat_lt s.position count) spans ≡ true

-- where each block lies: by whether it is clear, and whether its borders are in bundles that are out
abbrev pub inside_in : List ℕ → (Span → Bool) → List Span → Span → InsidePart
inside_in parents clear spans s = inside_at (clear s) (is_out parents clear spans (start_of s.position)) (is_out parents clear spans (end_of s.position)) s
