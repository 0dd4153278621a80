-- Splits keep siblings apart.
use Rattle.std.specs.Prelude.{◌≡◌, ◌<◌, ◌++◌, ◌+◌, ℕ, length, replicate, List, [], ◌∷◌}
use Rattle.target_base.specs.declared.types.Target.{Target}
use Rattle.meaning.specs.declared.types.Lane.{Lane}
use Rattle.mir_func.specs.Value.{Function}
use Rattle.mir_meaning.specs.Points.{OccupiedAt, Point, RangePoint}
use Rattle.live_lanes.specs.declared.ask.labels.Mark.{Mark}
use Rattle.lowering_laws.specs.Shapes.{IsLowered}
use Rattle.spiller.specs.Slots.{Slots, original_of, with_original}
use Rattle.split_kit.specs.Split.{Split, greatest_label, part, parts}
use Rattle.split_laws.specs.Laws.{IsOther, LabelsAgree}
use Rattle.sibling_laws.specs.Siblings.{AreSiblingsApart, KnowsOriginals}

-- What is live or occupied at a point of g, where range v of f is split: of other ranges, units and slots what was so at one point
-- of f; of the parts that of one label alone, where the range was; and the range itself is gone.
pub record SplitPoint (t : Target) (f g : Function) (v : ℕ) (ms : List Mark) (p : Point) : Type 0 where
  pub at : Point
  pub label : ℕ
  pub others : (l : Lane) → IsOther f v l → OccupiedAt t g p l → OccupiedAt t f at l
  pub shared : (n : ℕ) → n < greatest_label ms + 1 → RangePoint t g (part f n) p → RangePoint t f v at × (n ≡ label)
  pub gone : RangePoint t g v p → ⊥

-- So it is at each point.
abbrev pub SplitSharesPoints : Type 0
SplitSharesPoints =
    (t : Target) (f g : Function) (v : ℕ) (ms : List Mark) → IsLowered t f → v < length f.classes → LabelsAgree t f v ms → Split t f v ms g
    → (p : Point) → SplitPoint t f g v ms p

-- so many further ranges, each from this range's original
abbrev pub with_parts : Slots → ℕ → ℕ → Slots
with_parts s v n = record s { originals = s.originals ++ replicate n (original_of s v) }

-- further ranges, each of which gets the range's original in its turn
abbrev pub all_adopted : List ℕ → ℕ → Slots → Slots
all_adopted [] v s = s
all_adopted (w ∷ ws) v s = all_adopted ws v (with_original s w (original_of s v))

-- So do the parts of a range that is split.
abbrev pub PartsAreAdopted : Type 0
PartsAreAdopted =
    (f : Function) (s : Slots) (v : ℕ) (ms : List Mark) → length s.originals ≡ length f.classes → v < length f.classes
    → all_adopted (parts f ms) v s ≡ with_parts s v (greatest_label ms + 1)

-- A split whose parts have the range's original keeps it.
abbrev pub SplitKeepsSiblings : Type 0
SplitKeepsSiblings =
    (t : Target) (f g : Function) (s : Slots) (v : ℕ) (ms : List Mark) → IsLowered t f → v < length f.classes → LabelsAgree t f v ms → Split t f v ms g
    → KnowsOriginals f s → AreSiblingsApart t f s → let r = with_parts s v (greatest_label ms + 1) in KnowsOriginals g r × AreSiblingsApart t g r
