-- A function as one code: its blocks in layout, with the phis on the ways into blocks.
use Rattle.std.specs.Prelude.{ℕ, Bool, true, false, cond, not, ◌&&◌, ◌||◌, nat_eq, List, [], ◌∷◌, ◌++◌, map, find, length, Option, Some, None, option_map}
use Rattle.std.specs.List.{list_any}
use Rattle.target_base.specs.declared.types.Effect.{Effect}
use Rattle.target_base.specs.declared.types.Target.{Target}
use Rattle.target_base.specs.Storage.{unit_width, is_among}
use Rattle.target_base.specs.Numbers.{unit_number}
use Rattle.target_base.specs.Registers.{units_of, is_reserved_unit}
use Rattle.target_base.specs.Roles.{is_silent}
use Rattle.target_base.specs.Rules.{is_phi}
use Rattle.meaning.specs.Lanes.{Writes}
use Rattle.meaning.specs.Code.{Edge, Item, BlockStart, BlockEnd, Silent, Counted, Code, Given, Function as Meaning}
use Rattle.meaning.specs.Refines.{Refines}
use Rattle.mir_func.specs.declared.func.RegOp.{RegOp}
use Rattle.mir_func.specs.declared.func.Operand.{Operand}
use Rattle.mir_func.specs.declared.func.Operand.TheVariants as operands
use Rattle.mir_func.specs.declared.func.Instr.{Instr}
use Rattle.mir_func.specs.declared.func.Block.{Block}
use Rattle.mir_func.specs.Value.{Function}
use Rattle.mir_func.specs.Binding.{effect_of, does, is_terminator, ends_control, roles_of, is_early_clobber}
use Rattle.mir_meaning.specs.Registers.{use_sources}
use Rattle.mir_meaning.specs.Items.{defined, silent_writes, silent_reads, rest_of, values, counted_writes}

-- what a phi writes where its block is entered from block n
abbrev pub phi_pair : Target → Function → ℕ → RegOp → List Operand → Writes
phi_pair t f n d (operands.Reg s ∷ operands.Block m ∷ os) = cond (nat_eq m n) (defined t f false d (use_sources t f s)) (phi_pair t f n d os)
phi_pair t f n d _ = []

-- a phi's writing, by its operands
abbrev pub phi_operands : Target → Function → ℕ → List Operand → Writes
phi_operands t f n (operands.Reg d ∷ os) = phi_pair t f n d os
phi_operands t f n _ = []

-- what an instruction of a block writes on the way in from block n: phis alone do
abbrev pub phi_writes : Target → Function → ℕ → Instr → Writes
phi_writes t f n i = cond (does is_phi t i) (phi_operands t f n i.operands) []

-- what the phis among these instructions write at once; where two define one register, the later one counts
abbrev pub phis_written : Target → Function → ℕ → List Instr → Writes
phis_written t f n [] = []
phis_written t f n (i ∷ is) = phis_written t f n is ++ phi_writes t f n i

-- the instructions of the first block of that number
abbrev pub instrs_of : List Block → ℕ → List Instr
instrs_of bs m = elim (find (λ b. nat_eq b.number m) bs) [ None ↦ [] | Some b ↦ b.instrs ]

-- the way from block n into block m, with all that its phis write at once
abbrev pub way : Target → Function → ℕ → ℕ → Edge
way t f n m = record { block = m; phis = phis_written t f n (instrs_of f.blocks m) }

-- the ways out of a block, to all its successors
abbrev pub ways_out : Target → Function → Block → List Edge
ways_out t f b = map (λ e. way t f b.number e.block) b.successors

-- the block that the instruction names
abbrev pub target_of : List Operand → Option ℕ
target_of [] = None
target_of (operands.Block n ∷ os) = Some n
target_of (_ ∷ os) = target_of os

-- an instruction of block b, by its effect; paths lead from the exit of a terminator to all successors
abbrev pub effect_item : Target → Function → Block → Instr → Effect → Item
effect_item t f b i e =
    cond (is_silent e)
    (Silent (silent_reads t f e i.operands) (silent_writes t f e (is_early_clobber (roles_of t i)) i.operands))
    (Counted (rest_of t f e i) (map (λ v. v.0) (values t f e i)) (counted_writes t f e i) (option_map (way t f b.number) (target_of i.operands)) (cond (is_terminator e) (ways_out t f b) []))

-- an instruction of block b as an item; an excluded opcode does nothing
unfoldable pub item_of : Target → Function → Block → Instr → Item
item_of t f b i = elim (effect_of t i) [ None ↦ Silent [] [] | Some e ↦ effect_item t f b i e ]

-- control goes on behind the last of these instructions
abbrev pub falls_through : Target → List Instr → Bool
falls_through t [] = true
falls_through t (i ∷ []) = not (does ends_control t i)
falls_through t (i ∷ j ∷ is) = falls_through t (j ∷ is)

-- there is no instruction, or the last is no terminator
abbrev pub ends_without_terminator : Target → List Instr → Bool
ends_without_terminator t [] = true
ends_without_terminator t (i ∷ []) = not (does is_terminator t i)
ends_without_terminator t (i ∷ j ∷ is) = ends_without_terminator t (j ∷ is)

-- the number of the first of these blocks
abbrev pub first_number : List Block → Option ℕ
first_number [] = None
first_number (b ∷ bs) = Some b.number

-- an open block has no successors, and control doesn't reach its end: the target's text has such blocks
abbrev pub is_open : Target → Block → Bool
is_open t b = t.options.open_blocks && nat_eq (length b.successors) 0 && ends_without_terminator t b.instrs

-- the block that block b falls into, where it falls into one: the next in layout
abbrev pub fallen_into : Target → Block → List Block → Option ℕ
fallen_into t b after = cond (falls_through t b.instrs && not (is_open t b)) (first_number after) None

-- the end of a block
abbrev pub block_end : Target → Function → Block → List Block → Item
block_end t f b after = BlockEnd (option_map (λ m. (way t f b.number m).phis) (fallen_into t b after)) (ways_out t f b)

-- blocks in layout as one code, with this item for each instruction
abbrev pub blocks_code : (Block → Instr → Item) → Target → Function → List Block → Code
blocks_code item t f [] = []
blocks_code item t f (b ∷ bs) = BlockStart b.number ∷ (map (item b) b.instrs ++ (block_end t f b bs ∷ blocks_code item t f bs))

-- the code of a function
unfoldable pub code_of : Target → Function → Code
code_of t f = blocks_code (item_of t f) t f f.blocks

-- the units that the first block is given: its live-ins and the reserved ones
abbrev pub is_given : Target → List Block → ℕ → Bool
is_given t [] u = is_reserved_unit t u
is_given t (b ∷ bs) u = is_reserved_unit t u || list_any (λ r. is_among (units_of t r) (unit_number u)) b.liveins

-- a given unit with its width
abbrev pub given_of : Target → Function → Given
given_of t f u = cond (is_given t f.blocks u) (Some (unit_width t.units (unit_number u))) None

-- a function as its meaning sees it
unfoldable pub meaning_of : Target → Function → Meaning
meaning_of t f = record { code = code_of t f; given = given_of t f }

-- g does all that f does, as far as f is defined
abbrev pub refines : Target → Function → Function → Type 0
refines t f g = Refines (meaning_of t f) (meaning_of t g)
