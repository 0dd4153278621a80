-- The first fault of a function, and validity. V13 and V14 rest on live points and are asked only where all
-- other rules hold.
use Rattle.std.specs.Prelude.{◌≡◌, ℕ, zero, suc, Bool, true, false, cond, not, ◌&&◌, ◌||◌, nat_eq, nat_lt, List, [], ◌∷◌, map, filter, find, length, take, flat_map, Option, Some, None, option_map, slice_get}
use Rattle.std.specs.List.{list_all, list_any}
use Rattle.std.specs.Option.{option_or}
use Rattle.target_base.specs.declared.types.Reg.{Reg}
use Rattle.target_base.specs.declared.types.Target.{Target}
use Rattle.target_base.specs.Numbers.{reg_number, unit_number}
use Rattle.target_base.specs.Registers.{units_of, is_reserved_unit}
use Rattle.target_base.specs.Storage.{is_among, is_unreserved, same_numbers}
use Rattle.meaning.specs.declared.types.Lane.TheVariants.{VirtualLane, UnitLane}
use Rattle.mir_func.specs.declared.func.Place.{Place}
use Rattle.mir_func.specs.declared.func.Instr.{Instr}
use Rattle.mir_func.specs.declared.func.Block.{Block}
use Rattle.mir_func.specs.Value.{Function}
use Rattle.mir_meaning.specs.declared.Form.{Form}
use Rattle.mir_meaning.specs.declared.Form.TheVariants as forms
use Rattle.mir_func.specs.Binding.{known_opcode, passes, registers, is_virtual}
use Rattle.mir_meaning.specs.Registers.{numbers, has_number}
use Rattle.mir_meaning.specs.Points.{Start, LiveAt, Tests}
use Rattle.mir_meaning.specs.Rules.{V1, V2, V3, V4, V5, V6, V7, V8, V9, V10, V11, V12, V15, V15_frame, V16}

-- the number of the first rule that doesn't hold
abbrev pub first_failing : List (ℕ × Bool) → Option ℕ
first_failing [] = None
first_failing ((rule, holds) ∷ rest) = cond holds (first_failing rest) (Some rule)

-- the least rule that fails for instruction j of block k; an excluded opcode breaks V16 and is asked nothing else
unfoldable pub instr_fault : Target → Form → Function → ℕ → Block → ℕ → Instr → Option ℕ
instr_fault t form f k b j i = elim (known_opcode t i.op) [
  | None ↦ Some 16
  | Some d ↦ cond (V1 t f i) (first_failing (
      (2, V2 t f i) ∷ (3, V3 f i) ∷ (4, V4 t f i) ∷ (7, V7 t form f k b j i) ∷ (8, V8 t b j i)
      ∷ (11, V11 t form f i) ∷ (12, V12 t form f i) ∷ (15, V15 t form f i) ∷ [])) (Some 1)
]

-- the least rule that fails for block k; V15 of the frame counts at the entry block
unfoldable pub block_fault : Target → Form → Function → ℕ → Block → Option ℕ
block_fault t form f k b = first_failing (
    (5, V5 f k b) ∷ (6, V6 f k b) ∷ (9, V9 t f k b) ∷ (10, V10 t f k b) ∷ (15, not (nat_eq k 0) || V15_frame form f) ∷ (16, V16 b) ∷ [])

-- the lesser of two rules that fail, if any does
abbrev pub least : Option ℕ → Option ℕ → Option ℕ
least None r = r
least (Some q) None = Some q
least (Some q) (Some r) = Some (cond (nat_lt r q) r q)

-- a place and the rule that fails there
abbrev pub Fault : Type 0
Fault = Place × ℕ

-- a fault at place j of a block
abbrev pub fault_at : Block → ℕ → ℕ → Fault
fault_at b j rule = (record { block = b.number; at = j }, rule)

-- the first fault among instructions of block k, which are its j-th and on
abbrev pub instrs_fault : Target → Form → Function → ℕ → Block → ℕ → List Instr → Option Fault
instrs_fault t form f k b j [] = None
instrs_fault t form f k b j (i ∷ is) = option_or (option_map (fault_at b j) (instr_fault t form f k b j i)) (instrs_fault t form f k b (suc j) is)

-- a block's rules count at its first place
abbrev pub fault_in : Target → Form → Function → ℕ → Block → List Instr → Option Fault
fault_in t form f k b [] = option_map (fault_at b 0) (block_fault t form f k b)
fault_in t form f k b (i ∷ is) =
    option_or (option_map (fault_at b 0) (least (block_fault t form f k b) (instr_fault t form f k b 0 i))) (instrs_fault t form f k b 1 is)

-- the first fault among blocks, the k-th in layout and on
abbrev pub blocks_fault : Target → Form → Function → ℕ → List Block → Option Fault
blocks_fault t form f k [] = None
blocks_fault t form f k (b ∷ bs) = option_or (fault_in t form f k b b.instrs) (blocks_fault t form f (suc k) bs)

-- the first place in layout at which a rule other than V13 and V14 fails, with the least rule there
unfoldable pub shape_fault : Target → Form → Function → Option Fault
shape_fault t form f = blocks_fault t form f 0 f.blocks

-- the cover of a set of units

-- the register holds the unit
abbrev pub holds_unit : Target → ℕ → Reg → Bool
holds_unit t u r = is_among (units_of t r) (unit_number u)

-- the target's unreserved registers in order
abbrev pub unreserved_registers : Target → List Reg
unreserved_registers t = filter (is_unreserved t.reserved t.regs) (map reg_number (numbers 0 (length t.regs)))

-- the register that stands for a unit of the set: the first that lies wholly in the set, or else the first that
-- holds the unit
abbrev pub chosen : Target → (ℕ → Bool) → ℕ → Option Reg
chosen t live u =
    let holding = filter (holds_unit t u) (unreserved_registers t) in
    option_or (find (λ r. list_all (λ w. live w.0) (units_of t r)) holding) (find (λ r. true) holding)

-- the registers that stand for the units of the set, in target order, each once
unfoldable pub cover : Target → (ℕ → Bool) → List Reg
cover t live = filter (λ r. list_any (λ u. live u && passes (λ q. nat_eq r.0 q.0) (chosen t live u)) (numbers 0 (length t.units))) (unreserved_registers t)

-- the units of a block's live-ins
abbrev pub listed_units : Target → Block → List ℕ
listed_units t b = map (λ u. u.0) (flat_map (units_of t) b.liveins)

-- the test tells the units that are live at the start of block n
abbrev pub LiveInto : Target → Function → ℕ → (ℕ → Bool) → Type 0
LiveInto t f n live = Tests (λ u. LiveAt t f (Start n) (UnitLane u)) live

-- in version 1 only the first block has live-ins
abbrev pub may_list : Target → ℕ → Block → Bool
may_list t k b = nat_eq k 0 || nat_eq t.version 2 || nat_eq (length b.liveins) 0

-- live units are listed, and no reserved one is
abbrev pub listing_fits : Target → ℕ → Block → (ℕ → Bool) → Bool
listing_fits t k b live =
    list_all (λ u. not (live u) || has_number (listed_units t b) u) (numbers 0 (length t.units))
    && not (list_any (is_reserved_unit t) (listed_units t b)) && may_list t k b

-- the same test for an allocated function: the first block lists as in a source, each other one exactly the cover
abbrev pub liveins_fit : Target → Form → ℕ → Block → (ℕ → Bool) → Bool
liveins_fit t forms.Source k b live = listing_fits t k b live
liveins_fit t forms.Allocated zero b live = listing_fits t zero b live
liveins_fit t forms.Allocated (suc k) b live = same_numbers (map (λ r. r.0) b.liveins) (map (λ r. r.0) (cover t live))

-- V13, of block k: its live-ins are those of its live units. (Verifier: "Using an undefined physical register",
-- "MBB has allocatable live-in, but isn't entry, landing-pad, or inlineasm-br-indirect-target";
-- recomputeLiveIns makes such lists.)
abbrev pub V13 : Target → Form → Function → ℕ → Block → Type 0
V13 t form f k b = (live : ℕ → Bool) × LiveInto t f b.number live × (liveins_fit t form k b live ≡ true)

-- some instruction of the block names a virtual register
abbrev pub names_virtual : Block → Bool
names_virtual b = list_any (λ i. list_any (λ o. is_virtual o.loc) (registers i.operands)) b.instrs

-- V14: no lane of a virtual register is live at the function's start; allocated: no virtual register is named.
-- (Verifier: "Virtual register defs don't dominate all uses.", "Reading virtual register without a def";
-- "Function has NoVRegs property but there are VReg operands".)
abbrev pub V14 : Target → Form → Function → Type 0
V14 t forms.Source f = (b : Block) → slice_get f.blocks 0 ≡ Some b → (v k : ℕ) → LiveAt t f (Start b.number) (VirtualLane v k) → ⊥
V14 t forms.Allocated f = list_any names_virtual f.blocks ≡ false

-- V13 holds of the first k blocks
abbrev pub V13_before : Target → Form → Function → ℕ → Type 0
V13_before t form f k = (j : ℕ) (b : Block) → slice_get (take k f.blocks) j ≡ Some b → V13 t form f j b

-- valid in a form
pub record IsValid (t : Target) (form : Form) (f : Function) : Type 0 where
  pub shape : shape_fault t form f ≡ None
  pub liveins : V13_before t form f (length f.blocks)
  pub starts : V14 t form f

-- where no other rule fails: V13 of the first block comes before V14, and V14 before V13 of later blocks
pub data LiveFault (t : Target) (form : Form) (f : Function) : Fault → Type 0 where
  first : (b : Block) → slice_get f.blocks 0 ≡ Some b → (V13 t form f 0 b → ⊥) → LiveFault t form f (fault_at b 0 13)
  start : (b : Block) → slice_get f.blocks 0 ≡ Some b → V13 t form f 0 b → (V14 t form f → ⊥) → LiveFault t form f (fault_at b 0 14)
  later : (k : ℕ) (b : Block) → slice_get f.blocks (suc k) ≡ Some b → V13_before t form f (suc k) → V14 t form f → (V13 t form f (suc k) b → ⊥) → LiveFault t form f (fault_at b 0 13)

-- the first fault of a function: the first place in layout at which a rule fails, with the least rule there
pub data FirstFault (t : Target) (form : Form) (f : Function) (fault : Fault) : Type 0 where
  of_shape : shape_fault t form f ≡ Some fault → FirstFault t form f fault
  of_liveness : shape_fault t form f ≡ None → LiveFault t form f fault → FirstFault t form f fault

-- a function that is valid has no fault, and any other has no two first faults
abbrev pub LawOfFaults : Type 0
LawOfFaults = (t : Target) (form : Form) (f : Function) (x y : Fault) → FirstFault t form f x → (IsValid t form f → ⊥) × (FirstFault t form f y → x ≡ y)
