-- The pass over a function, and lowering as a whole.
use Rattle.std.specs.Prelude.{ℕ, Bool, cond, ◌+◌, List, [], ◌∷◌, ◌++◌, length, drop, flat_map, Option, Some, None, is_some, slice_get}
use Rattle.target_base.specs.declared.types.ClassId.{ClassId}
use Rattle.target_base.specs.declared.types.Role.{Role}
use Rattle.target_base.specs.declared.types.Target.{Target}
use Rattle.target_base.specs.Rules.{is_copy, is_reg_sequence, is_insert_subreg}
use Rattle.mir_func.specs.declared.func.Loc.{Loc}
use Rattle.mir_func.specs.declared.func.Loc.TheVariants.{Virtual, Fixed}
use Rattle.mir_func.specs.declared.func.RegOp.{RegOp}
use Rattle.mir_func.specs.declared.func.Operand.{Operand}
use Rattle.mir_func.specs.declared.func.Instr.{Instr}
use Rattle.mir_func.specs.declared.func.Block.{Block}
use Rattle.mir_func.specs.Value.{Function}
use Rattle.mir_func.specs.Binding.{does, roles_of, register_at}
use Rattle.phi_elim.specs.Numbered.{with_new_ids}
use Rattle.phi_elim.specs.Phis.{all_instrs, located_class, phis_lowered}
use Rattle.two_address.specs.declared.forms.InstrLowering.{InstrLowering}
use Rattle.two_address.specs.declared.forms.InstrLowering.TheVariants as forms
use Rattle.two_address.specs.declared.sequences.SubregInput.{SubregInput}
use Rattle.two_address.specs.declared.ties.Tie.{Tie}
use Rattle.two_address.specs.Ties.{undefined_first, ties_in, tied_lowered, copy_lowered, definition_class}
use Rattle.two_address.specs.Sequences.{part, parts_of, is_input, sequence_lowered, insertion_lowered}

-- the number of a virtual register
abbrev pub virtual_loc : Loc → Option ℕ
virtual_loc (Virtual v) = Some v
virtual_loc (Fixed r) = None

abbrev pub virtual_in : Option RegOp → Option ℕ
virtual_in None = None
virtual_in (Some o) = virtual_loc o.loc

-- the parts that the third and the fourth operand make
abbrev pub part_of_two : Option Operand → Option Operand → List SubregInput
part_of_two (Some a) (Some b) = part a b
part_of_two _ _ = []

-- COPY of one register operand to another
abbrev pub copy_form : Option RegOp → Option RegOp → InstrLowering
copy_form (Some d) (Some s) = forms.Copy d s
copy_form _ _ = forms.Other

-- REG_SEQUENCE into a virtual register
abbrev pub sequence_form : Option ℕ → InstrLowering
sequence_form (Some v) = forms.Sequence v
sequence_form None = forms.Other

-- INSERT_SUBREG of one part into a virtual register
abbrev pub insertion_form : Option ℕ → Option RegOp → List SubregInput → InstrLowering
insertion_form (Some v) (Some a) (p ∷ []) = forms.Insertion v a p
insertion_form _ _ _ = forms.Other

-- which of the rewritings applies
abbrev pub form_of : Target → Instr → InstrLowering
form_of t i =
    let os = i.operands in
    cond (does is_copy t i) (copy_form (register_at os 0) (register_at os 1))
    (cond (does is_reg_sequence t i) (sequence_form (virtual_in (register_at os 0)))
    (cond (does is_insert_subreg t i) (insertion_form (virtual_in (register_at os 0)) (register_at os 1) (part_of_two (slice_get os 2) (slice_get os 3)))
    forms.Other))

-- what becomes of an instruction of a form; c is the next range number
abbrev pub form_lowered : Target → List (Option ClassId) → ℕ → Instr → InstrLowering → List Instr
form_lowered t cs c i (forms.Copy d s) = copy_lowered i d s ∷ []
form_lowered t cs c i (forms.Sequence v) = sequence_lowered t cs c i v (parts_of (drop 1 i.operands))
form_lowered t cs c i (forms.Insertion v a p) = insertion_lowered c i v a p
form_lowered t cs c i forms.Other = tied_lowered t cs c i

-- what becomes of an instruction
abbrev pub instr_lowered : Target → List (Option ClassId) → ℕ → Instr → List Instr
instr_lowered t cs c i = flat_map undefined_first i.operands ++ form_lowered t cs c i (form_of t i)

-- the class of a register, where one is needed
abbrev pub class_if : Bool → Option ClassId → List (Option ClassId)
class_if b k = cond b (k ∷ []) []

-- the class of the register that stands in for a definition, where one does
abbrev pub class_aside : List Role → Tie → List (Option ClassId)
class_aside rs tie = class_if (is_some tie.aside) (definition_class rs tie.number)

-- the classes of the registers that an instruction of a form needs
abbrev pub form_classes : Target → List (Option ClassId) → ℕ → Instr → InstrLowering → List (Option ClassId)
form_classes t cs c i (forms.Copy d s) = []
form_classes t cs c i (forms.Sequence v) = class_if (is_input (Virtual v) (parts_of (drop 1 i.operands))) (located_class cs (Virtual v))
form_classes t cs c i (forms.Insertion v a p) = class_if (is_input (Virtual v) (p ∷ [])) (located_class cs (Virtual v))
form_classes t cs c i forms.Other = flat_map (class_aside (roles_of t i)) (ties_in t c i)

-- those of any instruction
abbrev pub instr_classes : Target → List (Option ClassId) → ℕ → Instr → List (Option ClassId)
instr_classes t cs c i = form_classes t cs c i (form_of t i)

-- the range number behind the instruction
abbrev pub next_range : Target → List (Option ClassId) → ℕ → Instr → ℕ
next_range t cs c i = c + length (instr_classes t cs c i)

-- what becomes of instructions, the first new register having number c
abbrev pub instrs_lowered : Target → List (Option ClassId) → ℕ → List Instr → List Instr
instrs_lowered t cs c [] = []
instrs_lowered t cs c (i ∷ is) = instr_lowered t cs c i ++ instrs_lowered t cs (next_range t cs c i) is

-- the classes of the registers that they need
abbrev pub classes_made : Target → List (Option ClassId) → ℕ → List Instr → List (Option ClassId)
classes_made t cs c [] = []
classes_made t cs c (i ∷ is) = instr_classes t cs c i ++ classes_made t cs (next_range t cs c i) is

-- what becomes of blocks
abbrev pub blocks_lowered : Target → List (Option ClassId) → ℕ → List Block → List Block
blocks_lowered t cs c [] = []
blocks_lowered t cs c (b ∷ bs) = record b { instrs = instrs_lowered t cs c b.instrs } ∷ blocks_lowered t cs (c + length (classes_made t cs c b.instrs)) bs

-- the function in lowered form, with new ids
unfoldable pub ties_lowered : Target → Function → Function
ties_lowered t f =
    let c = length f.classes in
    with_new_ids (record f {
      classes = f.classes ++ classes_made t f.classes c (all_instrs f.blocks);
      blocks = blocks_lowered t f.classes c f.blocks;
    })

-- a function behind lowering: phis first, then the rest
abbrev pub lowered : Target → Function → Function
lowered t f = ties_lowered t (phis_lowered t f)
