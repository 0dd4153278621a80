-- The validity rules V1 to V12, V15 and V16: each a test of an instruction or of a block. Beside each stands
-- what LLVM's machine verifier, its MIR parser or its manual says of the same matter.
use Rattle.std.specs.Prelude.{option_to_list, option_and_then, ℕ, suc, ℤ, pos, negsuc, Bool, true, false, cond, not, ◌&&◌, ◌||◌, nat_eq, nat_le, nat_lt, ◌==◌, List, [], ◌∷◌, ◌++◌, map, filter, flat_map, count_by, length, take, drop, codes, Option, Some, None, is_some, is_none}
use Rattle.std.specs.List.{list_all, list_any, starts_with}
use Rattle.std.specs.Bool.{beq}
use Rattle.target_base.specs.declared.types.ClassId.{ClassId}
use Rattle.target_base.specs.declared.types.Effect.{Effect}
use Rattle.target_base.specs.declared.types.Effect.TheVariants as effects
use Rattle.target_base.specs.declared.types.IndexId.{IndexId}
use Rattle.target_base.specs.declared.types.Role.{Role}
use Rattle.target_base.specs.declared.types.Role.TheVariants as roles
use Rattle.target_base.specs.declared.types.OpcodeDesc.{OpcodeDesc}
use Rattle.target_base.specs.declared.types.Target.{Target}
use Rattle.target_base.specs.Names.{are_distinct_numbers}
use Rattle.target_base.specs.Registers.{regs_of, lanes_of, fits, home_of, units_of, is_reserved_unit}
use Rattle.target_base.specs.Roles.{is_silent, is_slot}
use Rattle.target_base.specs.Rules.{is_phi, is_spill, is_reload}
use Rattle.target_base.specs.Storage.{holds_reg, is_within, holds_subs, same_numbers}
use Rattle.meaning.specs.declared.types.Lane.{Lane}
use Rattle.meaning.specs.Lanes.{same_lane}
use Rattle.mir_func.specs.declared.func.Loc.{Loc}
use Rattle.mir_func.specs.declared.func.Loc.TheVariants.{Virtual, Fixed}
use Rattle.mir_func.specs.declared.func.RegOp.{RegOp}
use Rattle.mir_func.specs.declared.func.Operand.{Operand}
use Rattle.mir_func.specs.declared.func.Operand.TheVariants as operands
use Rattle.mir_func.specs.declared.func.Instr.{Instr}
use Rattle.mir_func.specs.declared.func.Block.{Block}
use Rattle.mir_func.specs.Value.{Function}
use Rattle.mir_meaning.specs.declared.Form.{Form}
use Rattle.mir_meaning.specs.declared.Form.TheVariants as forms
use Rattle.mir_func.specs.Binding.{is_virtual, is_definition, is_use, same_loc, same_index, puts_together, is_lowered_away, known_opcode, does, passes, is_terminator, is_branch, is_implicit_operand, explicit_operands, registers, implicit_registers, takes_role, takes_many, Bound, explicit_roles, implicit_roles, bound, is_early, tied_number, ties_to, tied_pairs, numbered, class_of, asked_class, immediate_of}
use Rattle.mir_meaning.specs.Registers.{has_number, operand_lanes, operand_widths}
use Rattle.mir_meaning.specs.Items.{unreserved}
use Rattle.mir_meaning.specs.Codes.{falls_through, fallen_into, is_open}

-- what operands are

-- the register is fixed and all its units are reserved
abbrev pub is_reserved_register : Target → Loc → Bool
is_reserved_register t (Virtual v) = false
is_reserved_register t (Fixed r) = list_all (λ u. is_reserved_unit t u.0) (units_of t r)

-- an immediate, a frame object, a symbol, a subregister index, or a use of a reserved register
abbrev pub is_value : Target → Operand → Bool
is_value t (operands.Imm z) = true
is_value t (operands.Stack n) = true
is_value t (operands.FixedStack n) = true
is_value t (operands.Symbol name) = true
is_value t (operands.Index x) = true
is_value t (operands.Reg o) = is_use o && is_reserved_register t o.loc
is_value t o = false

-- the operand is of the kind that the role asks for at an opaque opcode, beside what it asks for at any
abbrev pub fits_opaque : Target → Role → Operand → Bool
fits_opaque t (roles.Value None) o = is_value t o
fits_opaque t (roles.Value (Some k)) (operands.Reg o) = is_use o
fits_opaque t (roles.Value (Some k)) o = is_value t o
fits_opaque t roles.Any o = is_value t o
fits_opaque t r o = false

-- the operand is of the kind that the role asks for
abbrev pub fits_role : Role → Operand → Bool
fits_role (roles.Def k) (operands.Reg o) = is_definition o
fits_role (roles.Early k) (operands.Reg o) = is_definition o
fits_role (roles.Read k) (operands.Reg o) = is_use o
fits_role (roles.Tied k n) (operands.Reg o) = is_use o
fits_role roles.Imm (operands.Imm z) = true
fits_role roles.Target (operands.Block n) = true
fits_role roles.Slot (operands.Stack n) = true
fits_role roles.Lanes (operands.Imm z) = true
fits_role roles.Lanes (operands.Index x) = true
fits_role roles.Sym (operands.Symbol name) = true
fits_role roles.Frame (operands.Stack n) = true
fits_role roles.Frame (operands.FixedStack n) = true
fits_role (roles.Address k) (operands.Reg o) = is_use o
fits_role (roles.Address k) (operands.Stack n) = true
fits_role (roles.Address k) (operands.FixedStack n) = true
fits_role (roles.Address k) (operands.Symbol name) = true
fits_role roles.Mask (operands.Mask m) = true
fits_role roles.Any (operands.Reg o) = is_use o
fits_role roles.Rest (operands.Reg o) = is_use o && not (is_virtual o.loc)
fits_role _ _ = false

-- the effect is opaque
abbrev pub is_opaque : Effect → Bool
is_opaque (effects.Opaque kind) = true
is_opaque e = false

-- the operand is of the kind that the role asks for at this effect
abbrev pub fits_at : Target → Effect → Role → Operand → Bool
fits_at t e r o = fits_role r o || (is_opaque e && fits_opaque t r o)

-- explicit operands meet the roles in number and kind
abbrev pub explicit_fit : Target → Effect → List Role → List Operand → Bool
explicit_fit t e rs [] = list_all takes_many rs
explicit_fit t e [] (o ∷ os) = false
explicit_fit t e (r ∷ rs) (o ∷ os) = fits_at t e r o && explicit_fit t e (cond (takes_many r) (r ∷ rs) rs) os

-- explicit operands stand before implicit ones
abbrev pub implicit_last : List Operand → Bool
implicit_last [] = true
implicit_last (o ∷ os) = cond (is_implicit_operand o) (list_all is_implicit_operand os) (implicit_last os)

-- the two implicit roles are one
abbrev pub same_role : Role → Role → Bool
same_role (roles.ImpDef a) (roles.ImpDef b) = a.0 == b.0
same_role (roles.ImpRead a) (roles.ImpRead b) = a.0 == b.0
same_role _ _ = false

-- implicit operands are fixed registers of a counted opcode, and each implicit role stands as often as the
-- opcode has it
abbrev pub implicit_fit : OpcodeDesc → List RegOp → Bool
implicit_fit d os =
    list_all (λ o. not (is_virtual o.loc) && not (is_silent d.effect)) os
    && list_all (λ r. count_by (λ o. takes_role o r) os == count_by (same_role r) d.roles) (implicit_roles d.roles)

-- a condition of a conditional jump
abbrev pub is_condition : ℤ → Bool
is_condition (pos n) = has_number (2 ∷ 3 ∷ 4 ∷ 5 ∷ 12 ∷ 13 ∷ []) n
is_condition (negsuc n) = false

-- the immediate is 0
abbrev pub is_zero : ℤ → Bool
is_zero (pos n) = nat_eq n 0
is_zero (negsuc n) = false

-- the register has one class, which the index fits
abbrev pub has_lanes_at : Target → Function → Loc → Option IndexId → Bool
has_lanes_at t f (Virtual v) x = passes (λ c. fits t c x) (class_of f v)
has_lanes_at t f (Fixed r) x = true

-- the lanes of the operand are known: its register has one class, which its index fits
abbrev pub has_lanes : Target → Function → RegOp → Bool
has_lanes t f o = has_lanes_at t f o.loc o.index

-- the lanes of a slot are all, or as many as the register beside them has
abbrev pub lanes_fit : Target → Function → List Operand → Bool
lanes_fit t f (operands.Reg o ∷ s ∷ operands.Imm z ∷ os) = is_zero z
lanes_fit t f (operands.Reg o ∷ s ∷ operands.Index x ∷ os) = not (has_lanes t f o) || length (lanes_of t x) == length (operand_widths t f o)
lanes_fit t f os = true

-- conditions and lanes of slots are among those that are allowed
abbrev pub values_fit : Target → Function → Effect → List Operand → Bool
values_fit t f effects.Jcc os = is_condition (immediate_of os)
values_fit t f effects.Spill os = lanes_fit t f os
values_fit t f effects.Reload os = lanes_fit t f os
values_fit t f _ os = true

-- an explicit use of a virtual register
abbrev pub is_virtual_use : RegOp → Bool
is_virtual_use o = is_use o && is_virtual o.loc

-- a virtual definition without an index
abbrev pub is_whole_definition : RegOp → Bool
is_whole_definition o = is_definition o && is_virtual o.loc && is_none o.index

-- a definition and a use
abbrev pub copy_fits : List Operand → Bool
copy_fits (operands.Reg d ∷ operands.Reg s ∷ []) = is_definition d && is_use s
copy_fits _ = false

-- a definition alone
abbrev pub implicit_def_fits : List Operand → Bool
implicit_def_fits (operands.Reg d ∷ []) = is_definition d
implicit_def_fits _ = false

-- pairs of a use and a block
abbrev pub phi_pairs : List Operand → Bool
phi_pairs [] = true
phi_pairs (operands.Reg s ∷ operands.Block n ∷ os) = is_virtual_use s && phi_pairs os
phi_pairs _ = false

-- pairs of a use and an index
abbrev pub index_pairs : List Operand → Bool
index_pairs [] = true
index_pairs (operands.Reg s ∷ operands.Index x ∷ os) = is_virtual_use s && index_pairs os
index_pairs _ = false

-- two uses and an index
abbrev pub insertion : List Operand → Bool
insertion (operands.Reg a ∷ operands.Reg b ∷ operands.Index x ∷ []) = is_virtual_use a && is_virtual_use b
insertion _ = false

-- the result of a phi, REG_SEQUENCE or INSERT_SUBREG, and the test of what follows it
abbrev pub result_and : (List Operand → Bool) → List Operand → Bool
result_and test (operands.Reg d ∷ os) = is_whole_definition d && test os
result_and test _ = false

-- operands fit the effect: the five opcodes of every target have shapes of their own, all others have roles
abbrev pub operands_fit : Target → Function → OpcodeDesc → List Operand → Effect → Bool
operands_fit t f d os effects.Copy = copy_fits os
operands_fit t f d os effects.ImplicitDef = implicit_def_fits os
operands_fit t f d os effects.Phi = result_and phi_pairs os
operands_fit t f d os effects.RegSequence = result_and index_pairs os
operands_fit t f d os effects.InsertSubreg = result_and insertion os
operands_fit t f d os e = implicit_last os && explicit_fit t e (explicit_roles d.roles) (explicit_operands os) && implicit_fit d (implicit_registers os) && values_fit t f e os

-- V1: operands fit the opcode's roles in number, kind and value. (Verifier: "Too few operands", "Explicit
-- operand marked as def"; MIR parser: "missing implicit register operand".)
unfoldable pub V1 : Target → Function → Instr → Bool
V1 t f i = elim (known_opcode t i.op) [ None ↦ true | Some d ↦ operands_fit t f d i.operands d.effect ]

-- the operands have equal lane widths, where the lanes of both are known
abbrev pub same_widths : Target → Function → RegOp → RegOp → Bool
same_widths t f a b = not (has_lanes t f a && has_lanes t f b) || same_numbers (operand_widths t f a) (operand_widths t f b)

-- each register of class c, through the index, lies in class k
abbrev pub lies_in : Target → ClassId → ClassId → Option IndexId → Bool
lies_in t k c None = is_within (regs_of t c) (regs_of t k)
lies_in t k c (Some x) = holds_subs t.regs (lanes_of t x) (regs_of t c) (regs_of t k)

-- the register, or each register of its class through the index, lies in class k
abbrev pub register_lies_in : Target → Function → ClassId → Loc → Option IndexId → Bool
register_lies_in t f k (Virtual v) x = passes (λ c. lies_in t k c x) (class_of f v)
register_lies_in t f k (Fixed r) x = holds_reg (regs_of t k) r

-- at an opaque opcode the role takes reserved registers of any class
abbrev pub takes_reserved : Role → Bool
takes_reserved (roles.Value k) = true
takes_reserved (roles.Address k) = true
takes_reserved r = false

-- the register is a reserved one, and the role takes these at this effect
abbrev pub is_taken_reserved : Target → Effect → Option Role → Loc → Bool
is_taken_reserved t e r l = is_opaque e && passes takes_reserved r && is_reserved_register t l

-- the register lies in the class that its role asks for, where its lanes are known
abbrev pub in_operand_class : Target → Function → Effect → Bound → Bool
in_operand_class t f e (r, operands.Reg o) =
    not (has_lanes t f o)
    || is_taken_reserved t e r o.loc
    || list_all (λ k. register_lies_in t f k o.loc o.index) (option_to_list (option_and_then asked_class r))
in_operand_class t f e (r, o) = true

-- a fixed side of a copy whose other side is virtual lies in some class
abbrev pub has_home : Target → Loc → Loc → Bool
has_home t (Fixed r) (Virtual v) = is_some (home_of t r)
has_home t a b = true

-- the lanes of a register that an index picks, as an operand
abbrev pub at_index : RegOp → IndexId → RegOp
at_index d x = record d { index = Some x }

-- each input of a REG_SEQUENCE has the widths of its index
abbrev pub parts_fit : Target → Function → RegOp → List Operand → Bool
parts_fit t f d (operands.Reg s ∷ operands.Index x ∷ os) = same_widths t f s (at_index d x) && parts_fit t f d os
parts_fit t f d os = true

-- an index operand, as a list
abbrev pub index_of : Operand → List IndexId
index_of (operands.Index x) = x ∷ []
index_of _ = []

-- the indexes share no lane
abbrev pub are_apart : Target → List Operand → Bool
are_apart t os = are_distinct_numbers (flat_map (lanes_of t) (flat_map index_of os))

-- the widths of what COPY, PHI, REG_SEQUENCE and INSERT_SUBREG put together fit
abbrev pub widths_fit : Target → Function → Effect → List Operand → Bool
widths_fit t f effects.Copy (operands.Reg d ∷ operands.Reg s ∷ os) = same_widths t f d s && has_home t d.loc s.loc && has_home t s.loc d.loc
widths_fit t f effects.Phi (operands.Reg d ∷ os) = list_all (same_widths t f d) (registers os)
widths_fit t f effects.RegSequence (operands.Reg d ∷ os) = are_apart t os && parts_fit t f d os
widths_fit t f effects.InsertSubreg (operands.Reg d ∷ operands.Reg a ∷ operands.Reg b ∷ operands.Index x ∷ os) = same_widths t f a d && same_widths t f b (at_index d x)
widths_fit t f e os = true

-- V2: registers lie in their operand's class, and what is copied or put together has equal lane widths.
-- (Verifier: "Illegal virtual register for instruction", "Illegal physical register for instruction", "Copy
-- Instruction is illegal with mismatching sizes".)
unfoldable pub V2 : Target → Function → Instr → Bool
V2 t f i = elim (known_opcode t i.op) [ None ↦ true | Some d ↦ list_all (in_operand_class t f d.effect) (bound t i) && widths_fit t f d.effect i.operands ]

-- a virtual register has just one class
abbrev pub has_class : Function → Loc → Bool
has_class f (Virtual v) = is_some (class_of f v)
has_class f (Fixed r) = true

-- V3: each virtual register that is named has just one class. It is asked wherever a register is named, so the
-- first place in layout is where it is named first. (Parser: "conflicting register classes", "Cannot determine
-- class/bank of virtual register".)
unfoldable pub V3 : Function → Instr → Bool
V3 f i = list_all (λ o. has_class f o.loc) (registers i.operands)

-- the index fits the register's class, where that is known; physical registers have none
abbrev pub index_fits : Target → Function → Loc → Option IndexId → Bool
index_fits t f (Virtual v) x = elim (class_of f v) [ None ↦ true | Some c ↦ fits t c x ]
index_fits t f (Fixed r) x = is_none x

-- the `%subreg` operands of what puts a register together fit its class
abbrev pub subregs_fit : Target → Function → List Operand → Bool
subregs_fit t f (operands.Reg d ∷ os) = list_all (λ x. index_fits t f d.loc (Some x)) (flat_map index_of os)
subregs_fit t f os = true

-- V4: indexes fit the classes of their registers, and physical registers have none. (Verifier: "Invalid
-- subregister index for virtual register", "Illegal subregister index for physical register".)
unfoldable pub V4 : Target → Function → Instr → Bool
V4 t f i = list_all (λ o. index_fits t f o.loc o.index) (registers i.operands) && (not (does puts_together t i) || subregs_fit t f i.operands)

-- the numbers of blocks, in order
abbrev pub block_numbers : List Block → List ℕ
block_numbers bs = map (λ b. b.number) bs

-- the numbers of a block's successors
abbrev pub successors_of : Block → List ℕ
successors_of b = map (λ e. e.block) b.successors

-- a block operand, as a list
abbrev pub block_of : Operand → List ℕ
block_of (operands.Block n) = n ∷ []
block_of _ = []

-- the blocks that an instruction names
abbrev pub named_blocks : Instr → List ℕ
named_blocks i = flat_map block_of i.operands

-- V5: a block's number differs from those before it, and the blocks that it names are there. (Parser:
-- "redefinition of machine basic block with id", "use of undefined machine basic block".)
unfoldable pub V5 : Function → ℕ → Block → Bool
V5 f k b = not (has_number (block_numbers (take k f.blocks)) b.number) && list_all (has_number (block_numbers f.blocks)) (successors_of b ++ flat_map named_blocks b.instrs)

-- the numbers of the blocks that have block n as a successor
abbrev pub predecessors : Function → ℕ → List ℕ
predecessors f n = block_numbers (filter (λ b. has_number (successors_of b) n) f.blocks)

-- V6: the entry block, the first in layout, has no predecessor. (IR verifier: "Entry block to function must not
-- have predecessors!".)
unfoldable pub V6 : Function → ℕ → Block → Bool
V6 f k b = not (nat_eq k 0) || nat_eq (length (predecessors f b.number)) 0

-- the first list has each number of the second once and no other
abbrev pub lists_once : List ℕ → List ℕ → Bool
lists_once ms ns = are_distinct_numbers ms && list_all (has_number ns) ms && list_all (has_number ms) ns

-- phis stand first in a block that isn't the entry block, and name each predecessor once
abbrev pub phi_stands : Target → Function → ℕ → Block → ℕ → Instr → Bool
phi_stands t f k b j i = list_all (does is_phi t) (take j b.instrs) && not (nat_eq k 0) && lists_once (named_blocks i) (predecessors f b.number)

-- V7, of instruction j of block k. Allocated: no phi, REG_SEQUENCE or INSERT_SUBREG is left. (Verifier: "Found
-- PHI instruction after non-PHI", "PHI operand is not in the CFG", "Missing PHI operand", "Found PHI
-- instruction with NoPHIs property set".)
unfoldable pub V7 : Target → Form → Function → ℕ → Block → ℕ → Instr → Bool
V7 t forms.Source f k b j i = not (does is_phi t i) || phi_stands t f k b j i
V7 t forms.Allocated f k b j i = not (does is_lowered_away t i)

-- V8, of instruction j: behind a terminator stand terminators only. (Verifier: "Non-terminator instruction
-- after the first terminator".)
unfoldable pub V8 : Target → Block → ℕ → Instr → Bool
V8 t b j i = does is_terminator t i || not (list_any (does is_terminator t) (take j b.instrs))

-- the blocks that branches name
abbrev pub branch_targets : Target → List Instr → List ℕ
branch_targets t is = flat_map named_blocks (filter (does is_branch t) is)

-- V9: the successors are the branch targets and the block that is fallen into, each once; not asked of an open
-- block, nor where a branch fails V1. (Verifier: "MBB exits via conditional branch/fall-through but the CFG successors don't match
-- the actual successors!".)
unfoldable pub V9 : Target → Function → ℕ → Block → Bool
V9 t f k b =
    list_any (λ i. does is_branch t i && not (V1 t f i)) b.instrs
    || is_open t b
    || lists_once (successors_of b) (branch_targets t b.instrs ++ option_to_list (fallen_into t b (drop (suc k) f.blocks)))

-- V10: the last block in layout ends with a jump or a return, or is open. (Verifier, of a conditional branch alone:
-- "MBB conditionally falls through out of function!".)
unfoldable pub V10 : Target → Function → ℕ → Block → Bool
V10 t f k b = nat_lt (suc k) (length f.blocks) || not (falls_through t b.instrs) || is_open t b

-- ties and `early-clobber` that are written are the opcode's; a tie names its definition by the place among the operands
abbrev pub flags_fit : Bound → Bool
flags_fit (r, operands.Reg o) = (not o.early || passes is_early r) && (is_none o.tie || passes (λ n. passes (ties_to n) r) o.tie)
flags_fit (r, o) = true

-- two virtual operands of equal widths, or one fixed register; allocated: one register
abbrev pub tie_fits : Target → Form → Function → RegOp → RegOp → Bool
tie_fits t forms.Source f d u = cond (is_virtual d.loc && is_virtual u.loc) (same_widths t f d u) (same_loc d.loc u.loc)
tie_fits t forms.Allocated f d u = same_loc d.loc u.loc && same_index d.index u.index

-- V11: written ties and early-clobber flags are the opcode's, and each tied pair fits. (Verifier: "Tied use must
-- be a register", "Two-address instruction operands must be identical".)
unfoldable pub V11 : Target → Form → Function → Instr → Bool
V11 t form f i = list_all flags_fit (bound t i) && list_all (λ p. tie_fits t form f p.definition p.tied_use) (tied_pairs t i)

-- the lanes of an operand that count for clashes: none where they aren't known
abbrev pub clashing_lanes : Target → Function → RegOp → List Lane
clashing_lanes t f o = cond (has_lanes t f o) (unreserved t (operand_lanes t f o)) []

-- the lists have a lane in common
abbrev pub share_a_lane : List Lane → List Lane → Bool
share_a_lane ls ms = list_any (λ l. list_any (same_lane l) ms) ls

-- no two of these lists have a lane in common
abbrev pub no_two_share : List (List Lane) → Bool
no_two_share [] = true
no_two_share (ls ∷ rest) = not (list_any (share_a_lane ls) rest) && no_two_share rest

-- the register operands that the instruction reads
abbrev pub readings : List RegOp → List RegOp
readings os = filter (λ o. not o.def && not o.undef) os

-- the operands that name something: all but `undef` uses
abbrev pub namings : List RegOp → List RegOp
namings os = filter (λ o. o.def || not o.undef) os

-- an `undef` definition is virtual, and nothing else names its register; allocated: there is none
abbrev pub undef_fits : Form → List RegOp → RegOp → Bool
undef_fits forms.Source os d = not d.undef || (is_virtual d.loc && nat_le (length (filter (λ o. same_loc o.loc d.loc) (namings os))) 1)
undef_fits forms.Allocated os d = not d.undef

-- what the instruction reads besides a use that is tied to the definition of that number
abbrev pub readings_besides : ℕ → List Bound → List RegOp
readings_besides n bs = readings (registers (map (λ b. b.1) (filter (λ b. not (passes (ties_to n) b.0)) bs)))

-- an early-clobber definition of that number shares nothing with what is read besides the use tied to it
abbrev pub early_fits : Target → Function → List Bound → ℕ × Bound → Bool
early_fits t f bs (n, (r, operands.Reg d)) = not (passes is_early r) || not (list_any (λ u. share_a_lane (clashing_lanes t f d) (clashing_lanes t f u)) (readings_besides n bs))
early_fits t f bs (n, (r, o)) = true

-- the lanes of a definition that count for clashes with others: of an opaque instruction reserved ones too
abbrev pub defined_lanes : Target → Function → Bool → RegOp → List Lane
defined_lanes t f true d = cond (has_lanes t f d) (operand_lanes t f d) []
defined_lanes t f false d = clashing_lanes t f d

-- an `undef` use that isn't tied
abbrev pub is_free_undef : Bound → Bool
is_free_undef (r, operands.Reg o) = not o.def && o.undef && is_none (option_and_then tied_number r)
is_free_undef (r, o) = false

-- an early-clobber definition
abbrev pub is_early_definition : Bound → Bool
is_early_definition b = passes is_early b.0

-- beside an early-clobber definition an opaque instruction has no `undef` use but tied ones
abbrev pub undef_uses_fit : Bool → List Bound → Bool
undef_uses_fit opaque bs = not (opaque && list_any is_early_definition bs && list_any is_free_undef bs)

-- V12: definitions are apart from each other and, where they are early, from uses. (Manual: "undef" of a
-- definition marks that the rest of the register isn't read; verifier: "Early clobber def must be at an early-clobber slot".)
unfoldable pub V12 : Target → Form → Function → Instr → Bool
V12 t form f i =
    list_all (undef_fits form (registers i.operands)) (filter (λ o. o.def) (registers i.operands))
    && no_two_share (map (defined_lanes t f (does is_opaque t i)) (filter (λ o. o.def) (registers i.operands)))
    && list_all (early_fits t f (bound t i)) (numbered 0 (bound t i))
    && undef_uses_fit (does is_opaque t i) (bound t i)

-- the frame object of that number is declared a spill slot
abbrev pub is_spill_slot : Function → ℕ → Bool
is_spill_slot f n = list_any (λ o. nat_eq o.0 n && o.1) f.frames

-- a store to a slot or a reload
abbrev pub spills_or_reloads : Effect → Bool
spills_or_reloads e = is_spill e || is_reload e

-- a `slot` operand names a spill slot, and no other operand does
abbrev pub slot_fits : Function → Bound → Bool
slot_fits f (r, operands.Stack n) = beq (passes is_slot r) (is_spill_slot f n)
slot_fits f (r, o) = not (passes is_slot r)

-- V15 of an instruction: the source has no store to a slot and no reload; allocated: slots and spill slots go
-- together. (Spill slots are frame objects that LLVM's allocator makes,
-- `MachineFrameInfo::CreateSpillStackObject`.)
unfoldable pub V15 : Target → Form → Function → Instr → Bool
V15 t forms.Source f i = not (does spills_or_reloads t i)
V15 t forms.Allocated f i = list_all (slot_fits f) (bound t i)

-- V15 of the frame: the source has no spill slot
unfoldable pub V15_frame : Form → Function → Bool
V15_frame forms.Source f = not (list_any (λ o. o.1) f.frames)
V15_frame forms.Allocated f = true

-- the word stands somewhere in the text
abbrev pub contains : List ℕ → List ℕ → Bool
contains [] word = false
contains (b ∷ bs) word = starts_with nat_eq (b ∷ bs) word || contains bs word

-- V16 of a block: it is no landing pad and no entry of an exception handler. V16 of an instruction: its opcode
-- isn't an excluded one.
unfoldable pub V16 : Block → Bool
V16 b = not (contains b.attributes (codes "landing-pad")) && not (contains b.attributes (codes "ehfunclet-entry"))
