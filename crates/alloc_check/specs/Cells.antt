-- Facts in cells.
use Rattle.std.specs.Prelude.{◌≡◌, ℕ, Bool, ◌&&◌, nat_eq, List, [], ◌∷◌, ◌++◌, ◌<◌, ◌≤◌, take, length, slice_index_or}
use Rattle.std.specs.List.{filter}
use Rattle.meaning.specs.Lanes.{Writes}
use Rattle.meaning.specs.Facts.{Fact, Facts, Knowledge, all_known, known_both}
use Rattle.meaning.specs.Sameness.{same_source}
use Rattle.alloc_check.specs.Marks.{source_slot, stays, Marks}
use Rattle.alloc_check.specs.declared.cells.FactBucket.{FactBucket}
use Rattle.alloc_check.specs.declared.cells.LaneMarks.{LaneMarks}
use Rattle.alloc_check.specs.declared.needs.Needs.{Needs}

-- each lane that is written is marked, by its slot in cells and by one of 256
pub record IsMarked (slots : ℕ) (marks : LaneMarks) (ws : Writes) : Type 0 where
  pub coarse : Marks slots marks.coarse.items ws
  pub fine : Marks 256 marks.fine.items ws

-- the fact has the slots of the cell
abbrev pub belongs : ℕ → FactBucket → Fact → Bool
belongs slots c f = nat_eq (source_slot slots f.0) c.left && nat_eq (source_slot slots f.1) c.right

-- the facts of a cell that count
abbrev pub counting : ℕ → FactBucket → Facts
counting slots c = filter (belongs slots c) c.facts

abbrev pub asked_in : ℕ → List FactBucket → Facts
asked_in slots [] = []
asked_in slots (c ∷ cs) = counting slots c ++ asked_in slots cs

-- what the needs ask
abbrev pub asked : Needs → Facts
asked needs = asked_in needs.slots needs.cells

abbrev pub same_fact : Fact → Fact → Bool
same_fact f g = same_source f.0 g.0 && same_source f.1 g.1

-- the cell at a place has these slots
pub record IsCellOf (cells : List FactBucket) (left right at : ℕ) : Type 0 where
  pub within : at < length cells
  pub first : (c : FactBucket) → (slice_index_or cells at c).left ≡ left
  pub second : (c : FactBucket) → (slice_index_or cells at c).right ≡ right

-- the new facts are the old ones and this one
abbrev pub Puts : Facts → Fact → Facts → Type 0
Puts old f new = (k : Knowledge) → all_known k new ≡ k f.0 f.1 && all_known k old

-- neither source of the fact is written
abbrev pub stays_both : Writes → Writes → Fact → Bool
stays_both ws vs f = stays ws f.0 && stays vs f.1

-- Facts of which those count that pass a test, split by writes: those that count are known behind the writes, and what
-- was taken before, just where those that are kept are known in front of them, and what is taken behind them.
abbrev pub Splits : (Fact → Bool) → Writes → Writes → Facts → Facts → Facts → Facts → Type 0
Splits counts ws vs old before kept taken =
    (k : Knowledge) →
    all_known (known_both ws vs k) (filter counts old) && all_known (known_both ws vs k) before ≡ all_known k (filter counts kept) && all_known (known_both ws vs k) taken

-- the same of one cell
abbrev pub CellTakes : ℕ → Writes → Writes → FactBucket → Facts → FactBucket → Facts → Type 0
CellTakes slots ws vs old before new taken =
    (k : Knowledge) →
    all_known (known_both ws vs k) (counting slots old) && all_known (known_both ws vs k) before ≡ all_known k (counting slots new) && all_known (known_both ws vs k) taken

-- the same of all needs
abbrev pub Takes : Writes → Writes → Facts → Facts → Facts → Type 0
Takes ws vs old taken new = (k : Knowledge) → all_known (known_both ws vs k) old ≡ all_known k new && all_known (known_both ws vs k) taken

-- the first cells are as they are behind taking, the others as they were
pub record TakenTo (slots : ℕ) (ws vs : Writes) (i : ℕ) (old now : List FactBucket) (taken : Facts) : Type 0 where
  pub same : length now ≡ length old
  pub rest : (j : ℕ) (c : FactBucket) → i ≤ j → slice_index_or now j c ≡ slice_index_or old j c
  pub done : (k : Knowledge) → all_known (known_both ws vs k) (asked_in slots (take i old)) ≡ all_known k (asked_in slots (take i now)) && all_known (known_both ws vs k) taken
