-- A function in which slots go to other slots.
use Rattle.std.specs.Prelude.{◌≡◌, ◌≤◌, ℕ, Bool, true, false, not, nat_eq, List, map, filter, count_by}
use Rattle.target_base.specs.declared.types.Target.{Target}
use Rattle.meaning.specs.declared.types.Lane.TheVariants.{SlotLane}
use Rattle.mir_func.specs.declared.func.Operand.{Operand}
use Rattle.mir_func.specs.declared.func.Operand.TheVariants as operands
use Rattle.mir_func.specs.declared.func.Instr.{Instr}
use Rattle.mir_func.specs.declared.func.Block.{Block}
use Rattle.mir_func.specs.Value.{Function, IsFunction}
use Rattle.mir_meaning.specs.declared.Form.TheVariants as forms
use Rattle.mir_meaning.specs.Codes.{refines}
use Rattle.mir_meaning.specs.Points.{Point, OccupiedAt}
use Rattle.mir_meaning.specs.Rules.{is_spill_slot}
use Rattle.mir_meaning.specs.Valid.{IsValid}

-- an operand with the slot to which its slot goes
abbrev pub slot_moved : (ℕ → ℕ) → Operand → Operand
slot_moved home (operands.Stack n) = operands.Stack (home n)
slot_moved home o = o

abbrev pub instr_moved : (ℕ → ℕ) → Instr → Instr
instr_moved home i = record i { operands = map (slot_moved home) i.operands }

abbrev pub block_moved : (ℕ → ℕ) → Block → Block
block_moved home b = record b { instrs = map (instr_moved home) b.instrs }

-- the slot goes to another one
abbrev pub goes : (ℕ → ℕ) → ℕ → Bool
goes home n = not (nat_eq (home n) n)

-- the function with these key lines, without the frame objects that went to others
abbrev pub function_moved : (ℕ → ℕ) → List ℕ → Function → Function
function_moved home head f = record f {
  head = head;
  frames = filter (λ o. not (goes home o.0)) f.frames;
  blocks = map (block_moved home) f.blocks;
}

-- how many of the frame objects are spill slots
abbrev pub spill_count : Function → ℕ
spill_count f = count_by (λ o. o.1) f.frames

-- a function that is valid as an allocated one, with ids of its own
pub record IsAllocated (t : Target) (f : Function) : Type 0 where
  pub function : IsFunction f.blocks f.next_id
  pub valid : IsValid t forms.Allocated f

-- where slots of a function may go
pub record AreHomes (t : Target) (f : Function) (home : ℕ → ℕ) : Type 0 where
  -- a slot to which one goes stays
  pub settled : (n : ℕ) → home (home n) ≡ home n
  -- spill slots go to spill slots, and other frame objects stay
  pub spills : (n : ℕ) → is_spill_slot f n ≡ true → is_spill_slot f (home n) ≡ true
  pub stays : (n : ℕ) → is_spill_slot f n ≡ false → home n ≡ n
  -- two slots of which lanes are live or occupied at one point don't go to one
  pub apart : (s r : ℕ) (p : Point) (k w j x : ℕ) → OccupiedAt t f p (SlotLane s k w) → OccupiedAt t f p (SlotLane r j x) → home s ≡ home r → s ≡ r

-- it has no more spill slots, wherever they go
abbrev pub MovingKeepsCount : Type 0
MovingKeepsCount = (home : ℕ → ℕ) (head : List ℕ) (f : Function) → spill_count (function_moved home head f) ≤ spill_count f

-- it does what it did, and did what it does
abbrev pub MovingRefines : Type 0
MovingRefines = (t : Target) (home : ℕ → ℕ) (head : List ℕ) (f : Function) → IsAllocated t f → AreHomes t f home → refines t f (function_moved home head f) × refines t (function_moved home head f) f

-- it is valid as an allocated function
abbrev pub MovingKeepsValid : Type 0
MovingKeepsValid = (t : Target) (home : ℕ → ℕ) (head : List ℕ) (f : Function) → IsAllocated t f → AreHomes t f home → IsValid t forms.Allocated (function_moved home head f)
