-- Splitting: a live range becomes several, with copies between them where its label changes.
use Rattle.std.specs.Prelude.{◌≡◌, ℕ, Bool, true, false, cond, not, ◌&&◌, ◌+◌, ◌-◌, nat_eq, max, List, [], ◌∷◌, ◌++◌, filter, length, replicate, Option, Some, None}
use Rattle.target_base.specs.declared.types.Target.{Target}
use Rattle.target_base.specs.Numbers.{op_number}
use Rattle.meaning.specs.declared.types.Lane.TheVariants.{VirtualLane}
use Rattle.mir_func.specs.declared.func.Loc.TheVariants.{Virtual}
use Rattle.mir_func.specs.declared.func.RegOp.{RegOp}
use Rattle.mir_func.specs.declared.func.Operand.{Operand}
use Rattle.mir_func.specs.declared.func.Operand.TheVariants as operands
use Rattle.mir_func.specs.declared.func.Instr.{Instr}
use Rattle.mir_func.specs.declared.func.Block.{Block}
use Rattle.mir_func.specs.Value.{Function}
use Rattle.mir_func.specs.Edits.{made}
use Rattle.mir_func.specs.Binding.{class_of}
use Rattle.mir_meaning.specs.Registers.{numbers}
use Rattle.mir_meaning.specs.Points.{Point, Start, Entry, Exit, LiveAt, Tests, is_range}
use Rattle.mir_meaning.specs.Renaming.{renamed_instr}
use Rattle.live_lanes.specs.declared.ask.labels.Mark.{Mark}
use Rattle.live_lanes.specs.declared.ask.labels.Spot.{Spot}
use Rattle.live_lanes.specs.declared.ask.labels.Spot.TheVariants as spots

-- some lane of the range is live at the point
abbrev pub RangeLive : Target → Function → ℕ → Point → Type 0
RangeLive t f v p = (k : ℕ) × LiveAt t f p (VirtualLane v k)

-- both are the same number, or both are none
abbrev pub same_number : Option ℕ → Option ℕ → Bool
same_number None None = true
same_number (Some n) (Some m) = nat_eq n m
same_number _ _ = false

-- the mark stands at its block's start
abbrev pub is_border : Spot → Bool
is_border spots.Border = true
is_border (spots.Gap g) = false

-- the mark stands at the gap before an instruction, or at the block's end
abbrev pub is_gap : Option ℕ → Spot → Bool
is_gap before spots.Border = false
is_gap before (spots.Gap g) = same_number g.before before

-- the marks of block n whose spots pass the test
abbrev pub marks_at : List Mark → ℕ → (Spot → Bool) → List Mark
marks_at ms n test = filter (λ m. nat_eq m.block n && test m.spot) ms

-- the label of the last of these marks; without any the label that held before
abbrev pub last_label : ℕ → List Mark → ℕ
last_label now [] = now
last_label now (m ∷ ms) = last_label m.label ms

-- the label at the start of block n, 0 where none is given
abbrev pub start_label : List Mark → ℕ → ℕ
start_label ms n = last_label 0 (marks_at ms n is_border)

-- the label behind a gap of block n
abbrev pub label_behind : List Mark → ℕ → Option ℕ → ℕ → ℕ
label_behind ms n before now = last_label now (marks_at ms n (is_gap before))

-- the greatest label
abbrev pub greatest_label : List Mark → ℕ
greatest_label [] = 0
greatest_label (m ∷ ms) = max m.label (greatest_label ms)

-- the parts of a range: new ranges, the remainder first, then that of each label
abbrev pub part : Function → ℕ → ℕ
part f label = length f.classes + label

abbrev pub parts : Function → List Mark → List ℕ
parts f ms = numbers (part f 0) (greatest_label ms + 1)

-- the whole of a range, read or defined
abbrev pub whole : Bool → ℕ → Operand
whole def v = operands.Reg (record { loc = Virtual v; index = None; def = def; implicit = false; undef = false; early = false; renamable = false; tie = None })

-- a copy between parts, where the label changes and some lane of the range is live; instructions that are made have the ids from n on
abbrev pub changed : Function → ℕ → Bool → ℕ → ℕ → List Instr
changed f n is_live from to = cond (is_live && not (nat_eq from to)) (made n (op_number 0) (whole true (part f to) ∷ whole false (part f from) ∷ []) ∷ []) []

-- the operand with a part in the range's place
abbrev pub as_part : Function → ℕ → ℕ → RegOp → RegOp
as_part f v label o = cond (is_range v o.loc) (record o { loc = Virtual (part f label) }) o

-- the point at a block's end
abbrev pub last_point : Point → List Instr → Point
last_point p [] = p
last_point p (i ∷ is) = last_point (Exit i.id) is

-- range v of f is split by these labels; the test tells the points at which it is live
module _ (live : Point → Bool) (f : Function) (v : ℕ) (ms : List Mark) where
  -- the instructions of block b from some place on, where this label holds
  abbrev pub instrs_split : ℕ → Block → ℕ → List Instr → List Instr
  instrs_split n b now [] = changed f n (live (last_point (Start b.number) b.instrs)) now (label_behind ms b.number None now)
  instrs_split n b now (i ∷ is) =
      let to = label_behind ms b.number (Some i.id) now in
      let copies = changed f n (live (Entry i.id)) now to in
      copies ++ (renamed_instr (as_part f v to) i ∷ instrs_split (n + length copies) b to is)

  abbrev pub block_split : ℕ → Block → Block
  block_split n b = record b { instrs = instrs_split n b (start_label ms b.number) b.instrs }

  -- the number behind those of the instructions that are made
  abbrev pub number_behind : ℕ → List Block → ℕ
  number_behind n [] = n
  number_behind n (b ∷ bs) = number_behind (n + (length (block_split n b).instrs - length b.instrs)) bs

  abbrev pub blocks_split : ℕ → List Block → List Block
  blocks_split n [] = []
  blocks_split n (b ∷ bs) = block_split n b ∷ blocks_split (number_behind n (b ∷ [])) bs

  -- the function with the range renamed by its labels, and with the copies
  unfoldable pub split_by : Function
  split_by = record f {
    classes = f.classes ++ replicate (greatest_label ms + 1) (class_of f v);
    blocks = blocks_split f.next_id f.blocks;
    next_id = number_behind f.next_id f.blocks;
  }

-- g is f with the range split by labels
abbrev pub Split : Target → Function → ℕ → List Mark → Function → Type 0
Split t f v ms g = (live : Point → Bool) × Tests (RangeLive t f v) live × (g ≡ split_by live f v ms)
