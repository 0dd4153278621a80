-- Agreement of a source with an allocated function, whoever made it: what must be alike, and which facts are needed.
use Rattle.std.specs.Prelude.{◌≡◌, ℕ, zero, suc, ◌<◌, Bool, true, false, cond, not, ◌&&◌, ◌||◌, nat_eq, nat_lt, List, [], ◌∷◌, map, filter, flat_map, length, Option, Some, None, option_map, slice_get}
use Rattle.std.specs.List.{list_all}
use Rattle.std.specs.Ordering.{int_eq}
use Rattle.std.specs.Bool.{beq}
use Rattle.std.specs.Option.{option_or}
use Rattle.target_base.specs.declared.types.Target.{Target}
use Rattle.target_base.specs.Storage.{same_numbers}
use Rattle.target_base.specs.Roles.{is_silent}
use Rattle.meaning.specs.declared.types.Row.{Row}
use Rattle.meaning.specs.declared.types.Row.TheVariants.{BothCounted}
use Rattle.meaning.specs.Code.{Function as Meaning}
use Rattle.meaning.specs.Facts.{known_at_start}
use Rattle.meaning.specs.Pairing.{pairing}
use Rattle.meaning.specs.Agree.{Family, rows_agree, agrees}
use Rattle.mir_func.specs.declared.func.RegOp.{RegOp}
use Rattle.mir_func.specs.declared.func.Operand.{Operand}
use Rattle.mir_func.specs.declared.func.Operand.TheVariants as operands
use Rattle.mir_func.specs.declared.func.Op.{Op}
use Rattle.mir_func.specs.declared.func.Op.TheVariants as ops
use Rattle.mir_func.specs.declared.func.Place.{Place}
use Rattle.mir_func.specs.declared.func.Instr.{Instr}
use Rattle.mir_func.specs.declared.func.Block.{Block}
use Rattle.mir_func.specs.Value.{Function}
use Rattle.mir_meaning.specs.declared.Form.TheVariants as forms
use Rattle.mir_func.specs.Binding.{does, explicit_operands, implicit_registers, is_virtual, same_loc}
use Rattle.mir_meaning.specs.Registers.{has_number, operand_widths}
use Rattle.mir_meaning.specs.Codes.{meaning_of}
use Rattle.mir_meaning.specs.Rules.{successors_of, is_opaque}
use Rattle.mir_meaning.specs.Valid.{IsValid, FirstFault, listed_units, Fault}

-- the opcodes are one
abbrev pub same_op : Op → Op → Bool
same_op (ops.Known a) (ops.Known b) = nat_eq a.0 b.0
same_op (ops.Excluded a) (ops.Excluded b) = same_numbers a b
same_op a b = false

-- `undef` in the second only where the first has it
abbrev pub undef_alike : RegOp → RegOp → Bool
undef_alike o p = o.undef || not p.undef

-- a fixed register of the first stays; a virtual one may be any register
abbrev pub register_alike : RegOp → RegOp → Bool
register_alike o p = beq o.def p.def && (is_virtual o.loc || same_loc o.loc p.loc) && undef_alike o p

-- the explicit operands may be one operand before and after allocation
abbrev pub operand_alike : Operand → Operand → Bool
operand_alike (operands.Reg o) (operands.Reg p) = register_alike o p
operand_alike (operands.Imm y) (operands.Imm z) = int_eq y z
operand_alike (operands.Block m) (operands.Block n) = nat_eq m n
operand_alike (operands.Stack m) (operands.Stack n) = nat_eq m n
operand_alike (operands.FixedStack m) (operands.FixedStack n) = nat_eq m n
operand_alike (operands.Symbol a) (operands.Symbol b) = same_numbers a b
operand_alike (operands.Index x) (operands.Index y) = nat_eq x.0 y.0
operand_alike (operands.Mask j) (operands.Mask k) = nat_eq j.0 k.0
operand_alike _ _ = false

-- the implicit operands are one
abbrev pub implicit_alike : RegOp → RegOp → Bool
implicit_alike o p = beq o.def p.def && same_loc o.loc p.loc && undef_alike o p

-- the lists are as long, and the test holds place by place
abbrev pub all_alike : {X : Type 0} → (X → X → Bool) → List X → List X → Bool
all_alike test [] [] = true
all_alike test (x ∷ xs) (y ∷ ys) = test x y && all_alike test xs ys
all_alike test _ _ = false

-- the second may be the first with its registers chosen
abbrev pub are_partners : Instr → Instr → Bool
are_partners i j =
    same_op i.op j.op
    && all_alike operand_alike (explicit_operands i.operands) (explicit_operands j.operands)
    && all_alike implicit_alike (implicit_registers i.operands) (implicit_registers j.operands)

-- where both operands are registers, they have the same lane widths
abbrev pub widths_alike : Target → Function → Function → Operand → Operand → Bool
widths_alike t f g (operands.Reg o) (operands.Reg p) = same_numbers (operand_widths t f o) (operand_widths t g p)
widths_alike t f g o p = true

-- Instruction i of the first function and instruction x of the second may be a pair. Of an opaque one the lane widths of
-- registers are asked besides: of some roles no class says them.
abbrev pub are_paired : Target → Function → Function → Instr → Instr → Bool
are_paired t f g i x = are_partners i x && (not (does is_opaque t i) || all_alike (widths_alike t f g) (explicit_operands i.operands) (explicit_operands x.operands))

-- the lists have the same numbers
abbrev pub same_set : List ℕ → List ℕ → Bool
same_set ms ns = list_all (has_number ns) ms && list_all (has_number ms) ns

-- the blocks have one number and the same successors
abbrev pub blocks_alike : Block → Block → Bool
blocks_alike b c = nat_eq b.number c.number && same_set (successors_of b) (successors_of c)

-- the first of these blocks of the first function that has no like one of the second in its place
abbrev pub unlike_block : (Block → Block → Bool) → List Block → List Block → Option ℕ
unlike_block test [] cs = None
unlike_block test (b ∷ bs) [] = Some b.number
unlike_block test (b ∷ bs) (c ∷ cs) = cond (test b c) (unlike_block blocks_alike bs cs) (Some b.number)

-- the entry blocks list the same units too
abbrev pub entries_alike : Target → Block → Block → Bool
entries_alike t b c = blocks_alike b c && same_set (listed_units t b) (listed_units t c)

-- instruction j of block n
abbrev pub place : ℕ → ℕ → Place
place n j = record { block = n; at = j }

-- the first block, where the second function has more of them
abbrev pub further_block : List Block → List Block → Option ℕ
further_block [] cs = None
further_block (b ∷ bs) cs = cond (nat_lt (length (b ∷ bs)) (length cs)) (Some b.number) None

-- where the blocks differ: the first unlike block, or the entry block where the second function has further ones
unfoldable pub block_doubt : Target → Function → Function → Option Place
block_doubt t f g = option_map (λ n. place n 0) (option_or (unlike_block (entries_alike t) f.blocks g.blocks) (further_block f.blocks g.blocks))

-- the instruction counts in a run
abbrev pub is_counted : Target → Instr → Bool
is_counted t i = does (λ e. not (is_silent e)) t i

-- Of instructions of one block, the j-th and on, and the counted ones left of the other: the first counted one whose
-- partner is missing or differs; or instruction 0, where the other has more.
abbrev pub unpaired : Target → Function → Function → ℕ → List Instr → List Instr → Option ℕ
unpaired t f g j [] [] = None
unpaired t f g j [] (x ∷ xs) = Some 0
unpaired t f g j (i ∷ is) [] = cond (is_counted t i) (Some j) (unpaired t f g (suc j) is [])
unpaired t f g j (i ∷ is) (x ∷ xs) = cond (is_counted t i) (cond (are_paired t f g i x) (unpaired t f g (suc j) is xs) (Some j)) (unpaired t f g (suc j) is (x ∷ xs))

-- the same over blocks in layout
abbrev pub unpaired_in : Target → Function → Function → List Block → List Block → Option Place
unpaired_in t f g [] cs = None
unpaired_in t f g (b ∷ bs) [] = None
unpaired_in t f g (b ∷ bs) (c ∷ cs) = option_or (option_map (place b.number) (unpaired t f g 0 b.instrs (filter (is_counted t) c.instrs))) (unpaired_in t f g bs cs)

-- where the counted instructions of the blocks don't pair
unfoldable pub partner_doubt : Target → Function → Function → Option Place
partner_doubt t f g = unpaired_in t f g f.blocks g.blocks

-- the second function with its successors in the order of the first, which changes nothing that it does
abbrev pub in_order_of : List Block → List Block → List Block
in_order_of [] cs = []
in_order_of (b ∷ bs) [] = []
in_order_of (b ∷ bs) (c ∷ cs) = record c { successors = b.successors } ∷ in_order_of bs cs

-- the second function, by its meaning
abbrev pub second_meaning : Target → Function → Function → Meaning
second_meaning t f g = meaning_of t (record g { blocks = in_order_of f.blocks g.blocks })

-- some family of facts for the starts of blocks holds on every way into a block and has every fact that is needed
abbrev pub FactsHold : Target → Function → Function → Type 0
FactsHold t f g = (family : Family) × (agrees (meaning_of t f) (second_meaning t f g) family ≡ true)

-- a row whose operands ask for no facts
abbrev pub without_reads : Row → Row
without_reads (BothCounted r reads reads' ws ws' target exits) = BothCounted r [] [] ws ws' target exits
without_reads row = row

-- the rows, of whose counted pairs the n-th alone asks for facts
abbrev pub asking_at : ℕ → List Row → List Row
asking_at n [] = []
asking_at zero (BothCounted r reads reads' ws ws' target exits ∷ rows) = BothCounted r reads reads' ws ws' target exits ∷ map without_reads rows
asking_at (suc n) (BothCounted r reads reads' ws ws' target exits ∷ rows) = BothCounted r [] [] ws ws' target exits ∷ asking_at n rows
asking_at n (row ∷ rows) = row ∷ asking_at n rows

-- the n-th counted pair has the facts that it needs, in some family that holds on every way
abbrev pub HasFacts : Target → Function → Function → ℕ → Type 0
HasFacts t f g n =
    (family : Family) × (rows_agree family (option_map (asking_at n) (pairing (meaning_of t f).code (second_meaning t f g).code)) (known_at_start (meaning_of t f).given (second_meaning t f g).given) ≡ true)

-- the places of the counted instructions in layout
abbrev pub counted_from : Target → ℕ → ℕ → List Instr → List Place
counted_from t n j [] = []
counted_from t n j (i ∷ is) = cond (is_counted t i) (place n j ∷ counted_from t n (suc j) is) (counted_from t n (suc j) is)

-- all of a function's
abbrev pub counted_places : Target → Function → List Place
counted_places t f = flat_map (λ b. counted_from t b.number 0 b.instrs) f.blocks

-- the two agree: the second is valid as an allocated function, they match, and every needed fact holds
pub record Agrees (t : Target) (f g : Function) : Type 0 where
  pub valid : IsValid t forms.Allocated g
  pub blocks : block_doubt t f g ≡ None
  pub partners : partner_doubt t f g ≡ None
  pub facts : FactsHold t f g

-- the first place in doubt, where they don't agree
pub data FirstDoubt (t : Target) (f g : Function) : Place → Type 0 where
  invalid : {fault : Fault} → FirstFault t forms.Allocated g fault → FirstDoubt t f g fault.0
  of_block : {p : Place} → IsValid t forms.Allocated g → block_doubt t f g ≡ Some p → FirstDoubt t f g p
  of_partner : {p : Place} → IsValid t forms.Allocated g → block_doubt t f g ≡ None → partner_doubt t f g ≡ Some p → FirstDoubt t f g p
  of_fact :
      {n : ℕ} {p : Place} → IsValid t forms.Allocated g → block_doubt t f g ≡ None → partner_doubt t f g ≡ None →
      slice_get (counted_places t f) n ≡ Some p → ((m : ℕ) → m < n → HasFacts t f g m) → (HasFacts t f g n → ⊥) → FirstDoubt t f g p

-- functions that agree have no first place in doubt, and others have no two
abbrev pub LawOfDoubts : Type 0
LawOfDoubts = (t : Target) (f g : Function) (p q : Place) → FirstDoubt t f g p → (Agrees t f g → ⊥) × (FirstDoubt t f g q → p ≡ q)
