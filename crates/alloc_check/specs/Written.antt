-- Which units the rows of two functions write.
use Rattle.std.specs.Prelude.{◌≡◌, ℕ, Bool, true, not, ◌&&◌, ◌||◌, List, Option, Some, None}
use Rattle.std.specs.List.{list_all, filter}
use Rattle.target_base.specs.declared.types.Unit.{Unit as UnitNumber}
use Rattle.meaning.specs.declared.types.Lane.{Lane}
use Rattle.meaning.specs.declared.types.Lane.TheVariants.{UnitLane}
use Rattle.meaning.specs.declared.types.EdgePair.{EdgePair}
use Rattle.meaning.specs.declared.types.Row.{Row}
use Rattle.meaning.specs.declared.types.Row.TheVariants.{BothStart, BothEnd, FirstSilent, SecondSilent, BothCounted}
use Rattle.meaning.specs.Lanes.{Writes}
use Rattle.alloc_check.specs.Marks.{is_marked, unwritten}

-- no phi of either code writes the lane on this way
abbrev pub way_leaves : Lane → EdgePair → Bool
way_leaves l e = unwritten e.first l && unwritten e.second l

abbrev pub target_leaves : Lane → Option EdgePair → Bool
target_leaves l None = true
target_leaves l (Some e) = way_leaves l e

-- the same where control falls into the next block
abbrev pub falls_leave : Lane → Option (Writes × Writes) → Bool
falls_leave l None = true
falls_leave l (Some e) = unwritten e.0 l && unwritten e.1 l

-- no write of the row names the lane
abbrev pub row_leaves : Lane → Row → Bool
row_leaves l (BothStart n) = true
row_leaves l (BothEnd falls exits) = falls_leave l falls && list_all (way_leaves l) exits
row_leaves l (FirstSilent reads ws) = unwritten ws l
row_leaves l (SecondSilent reads ws) = unwritten ws l
row_leaves l (BothCounted r reads reads' ws ws' target exits) = (unwritten ws l && unwritten ws' l) && (target_leaves l target && list_all (way_leaves l) exits)

abbrev pub rows_leave : List Row → Lane → Bool
rows_leave rows l = list_all (row_leaves l) rows

-- the units that some write of the rows names
abbrev pub written_units : List Row → List UnitNumber → List UnitNumber
written_units rows us = filter (λ u. not (rows_leave rows (UnitLane u.0))) us

-- marks by the numbers of units, with those added whose lanes the test says are written
abbrev pub AddsMarks : List ℕ → (Lane → Bool) → List ℕ → Type 0
AddsMarks old leaves new = (u : ℕ) → is_marked new u ≡ is_marked old u || not (leaves (UnitLane u))
