-- Splitting keeps the meaning.
use Rattle.std.specs.Prelude.{◌≡◌, ◌<◌, ◌↔◌, ◌+◌, ℕ, true, false, List, [], ◌∷◌, ◌++◌, length, replicate, Option, Some, None}
use Rattle.target_base.specs.declared.types.Target.{Target}
use Rattle.meaning.specs.declared.types.Lane.{Lane}
use Rattle.meaning.specs.declared.types.Lane.TheVariants.{VirtualLane, UnitLane, SlotLane}
use Rattle.meaning.specs.Live.{Among as Member}
use Rattle.mir_func.specs.declared.func.Edge.{Edge}
use Rattle.mir_func.specs.declared.func.Instr.{Instr}
use Rattle.mir_func.specs.declared.func.Block.{Block}
use Rattle.mir_func.specs.Value.{Function}
use Rattle.mir_func.specs.Binding.{class_of, does, is_lowered_away, is_terminator}
use Rattle.mir_meaning.specs.declared.Form.TheVariants as forms
use Rattle.mir_meaning.specs.Codes.{refines}
use Rattle.mir_meaning.specs.Points.{Point, Start, Entry, Exit, LiveAt, OccupiedAt}
use Rattle.mir_meaning.specs.Renaming.{renamed_instr}
use Rattle.mir_meaning.specs.Valid.{IsValid}
use Rattle.live_lanes.specs.declared.ask.labels.Mark.{Mark}
use Rattle.live_laws.specs.Effects.Shaped.{AreClasses, IsShaped}
use Rattle.two_address.specs.Lowered.{lowered}
use Rattle.lowering_laws.specs.Shapes.{IsLowered}
use Rattle.split_kit.specs.Split.{RangeLive, Split, as_part, label_behind, start_label, greatest_label, part}

-- where some lane of the range is live at the start of one of these successors, the label there is this one
abbrev pub Meets : Target → Function → ℕ → List Mark → List Edge → ℕ → Type 0
Meets t f v ms es label = (e : Edge) → Member e es → RangeLive t f v (Start e.block) → label ≡ start_label ms e.block

-- the gap before the first of these instructions, or at the block's end
abbrev pub next_gap : List Instr → Option ℕ
next_gap [] = None
next_gap (i ∷ is) = Some i.id

-- The instructions of block b from some place on, where this label holds. At each terminator and at the block's end the label
-- meets those of the successors, and behind a terminator it stays.
abbrev pub AllMeet : Target → Function → ℕ → List Mark → Block → ℕ → List Instr → Type 0
AllMeet t f v ms b now [] = Meets t f v ms b.successors (label_behind ms b.number None now)
AllMeet t f v ms b now (i ∷ is) =
    let to = label_behind ms b.number (Some i.id) now in
    (does is_terminator t i ≡ true → Meets t f v ms b.successors to × (label_behind ms b.number (next_gap is) to ≡ to)) × AllMeet t f v ms b to is

-- labels agree on the ways between blocks
abbrev pub LabelsAgree : Target → Function → ℕ → List Mark → Type 0
LabelsAgree t f v ms = (b : Block) → Member b f.blocks → AllMeet t f v ms b (start_label ms b.number) b.instrs

-- with a part in the range's place, an instruction that isn't lowered away keeps the rules on its operands, widths, classes,
-- indexes and definitions
abbrev pub PartsKeepShape : Type 0
PartsKeepShape =
    (t : Target) (f g : Function) (v count label : ℕ) → label < count → g.classes ≡ f.classes ++ replicate count (class_of f v)
    → (i : Instr) → does is_lowered_away t i ≡ false → IsShaped t f i → IsShaped t g (renamed_instr (as_part f v label) i)

-- the function with a range split does what it did
abbrev pub SplitRefines : Type 0
SplitRefines = (t : Target) (f g : Function) (v : ℕ) (ms : List Mark) → IsLowered t f → LabelsAgree t f v ms → Split t f v ms g → refines t f g

-- and is in the form in which ranges are split
abbrev pub SplitKeepsLowered : Type 0
SplitKeepsLowered = (t : Target) (f g : Function) (v : ℕ) (ms : List Mark) → IsLowered t f → LabelsAgree t f v ms → Split t f v ms g → IsLowered t g

-- g is f with ranges split one after the other, each by labels that agree in the function that is split
abbrev pub SplitInTurn : Target → Function → List (ℕ × List Mark) → Function → Type 0
SplitInTurn t f [] g = g ≡ f
SplitInTurn t f (s ∷ splits) g = (h : Function) × LabelsAgree t f s.0 s.1 × Split t f s.0 s.1 h × SplitInTurn t h splits g

-- after any number of splits the function does what it did
abbrev pub SplitsRefine : Type 0
SplitsRefine = (t : Target) (f g : Function) (splits : List (ℕ × List Mark)) → IsLowered t f → SplitInTurn t f splits g → refines t f g × IsLowered t g

-- A valid source, lowered and then with any number of splits, does what it did. Its classes are the target's, and it has a
-- block.
abbrev pub LoweredSplitsRefine : Type 0
LoweredSplitsRefine =
    (t : Target) (f g : Function) (splits : List (ℕ × List Mark)) → IsValid t forms.Source f → AreClasses t f → 0 < length f.blocks
    → SplitInTurn t (lowered t f) splits g → refines t f g

-- a point of the function, whose instructions have ids below the next
abbrev pub IsPointOf : Function → Point → Type 0
IsPointOf f (Start n) = Unit {0}
IsPointOf f (Entry id) = id < f.next_id
IsPointOf f (Exit id) = id < f.next_id

-- a lane of a register of the function other than the range, a unit, or a slot's lane
abbrev pub IsOther : Function → ℕ → Lane → Type 0
IsOther f v (VirtualLane w k) = (w < length f.classes) × (w ≡ v → ⊥)
IsOther f v (UnitLane u) = Unit {0}
IsOther f v (SlotLane s k w) = Unit {0}

-- a lane is live at a point of both functions or of neither, and so is it live or occupied
pub record IsSame (t : Target) (f g : Function) (p : Point) (l : Lane) : Type 0 where
  pub live : LiveAt t f p l ↔ LiveAt t g p l
  pub occupied : OccupiedAt t f p l ↔ OccupiedAt t g p l

-- other ranges, units and slots are live and occupied at the points of the function where they were
abbrev pub SplitKeepsOthers : Type 0
SplitKeepsOthers =
    (t : Target) (f g : Function) (v : ℕ) (ms : List Mark) → IsLowered t f → LabelsAgree t f v ms → Split t f v ms g
    → (p : Point) → IsPointOf f p → (l : Lane) → IsOther f v l → IsSame t f g p l

-- at the point those lanes of one part are live that the range had, and none of another part
pub record IsShared (t : Target) (f g : Function) (v : ℕ) (ms : List Mark) (p : Point) : Type 0 where
  pub label : ℕ
  pub fits : label < greatest_label ms + 1
  pub live : (k : ℕ) → LiveAt t f p (VirtualLane v k) → LiveAt t g p (VirtualLane (part f label) k)
  pub only : (to k : ℕ) → to < greatest_label ms + 1 → LiveAt t g p (VirtualLane (part f to) k) → LiveAt t f p (VirtualLane v k) × (to ≡ label)

-- the parts share the points of the range at which it is live
abbrev pub SplitSharesRange : Type 0
SplitSharesRange =
    (t : Target) (f g : Function) (v : ℕ) (ms : List Mark) → IsLowered t f → LabelsAgree t f v ms → Split t f v ms g
    → (p : Point) → IsPointOf f p → IsShared t f g v ms p
