-- The rules of an instruction, over its operands as code sorts them, are the rules of the definitions.
use Rattle.std.proofs.Common.{◌≡◌, ◌∙◌, ℕ, true, [], ◌++◌, refl, sym, ap, take}
use Rattle.std.specs.Prelude.{◌&&◌, ◌||◌, not, map, Some, None, flat_map, filter_map}
use Rattle.std.specs.List.{list_all}
use Rattle.std.specs.Bool.{beq}
use Rattle.target_base.specs.declared.types.OpcodeDesc.{OpcodeDesc}
use Rattle.target_base.specs.Roles.{is_slot}
use Rattle.target_base.specs.declared.types.Target.{Target}
use Rattle.mir_func.specs.declared.func.Block.{Block}
use Rattle.mir_func.specs.declared.func.Instr.{Instr}
use Rattle.mir_func.specs.declared.func.Operand.TheVariants as operands
use Rattle.mir_func.specs.Value.{Function}
use Rattle.mir_meaning.specs.declared.Form.{Form}
use Rattle.mir_meaning.specs.declared.Form.TheVariants as forms
use Rattle.mir_func.specs.Binding.{Bound, known_opcode, implicit_registers, bound, explicit_bound, explicit_roles, explicit_operands, implicit_bound, implicit_roles, tied_pair, passes, roles_of, puts_together}
use Rattle.mir_meaning.specs.Registers.{has_number}
use Rattle.mir_meaning.specs.Rules.{V1, V2, V3, V4, V5, V11, V12, V15, in_operand_class, widths_fit, has_class, index_fits, subregs_fit, flags_fit, operands_fit, block_numbers, successors_of, named_blocks, slot_fits, spills_or_reloads, is_opaque}
use Rattle.machine_verify.specs.declared.instr_rules.SortedInstr.{SortedInstr}
use Rattle.machine_verify.specs.declared.numbers.NumberSet.{NumberSet}
use Rattle.machine_verify.specs.InstrRules.{IsSortedInstr}
use Rattle.bound_operands.specs.Seen.{seen_all}
use Rattle.machine_verify.specs.Sets.{Holds, HoldsSlots, has}
use Rattle.machine_verify.specs.Ties as ties
use Rattle.machine_verify.proofs.Listed.{list_all_alike}

pub v1_is : (t : Target) (f : Function) (i : Instr) (d : OpcodeDesc) → known_opcode t i.op ≡ Some d → operands_fit t f d i.operands d.effect ≡ V1 t f i
unfolding V1
v1_is t f i d h = rw (h, V1) refl

pub v2_is : (t : Target) (f : Function) (a : SortedInstr) → IsSortedInstr t a.instr.now a → (list_all (in_operand_class t f a.desc.now.effect) (seen_all a.bound.items) && widths_fit t f a.desc.now.effect a.instr.now.operands) ≡ V2 t f a.instr.now
unfolding V2
v2_is t f a h =
    let i = a.instr.now in
    ap (λ bs. list_all (in_operand_class t f a.desc.now.effect) bs && widths_fit t f a.desc.now.effect i.operands) h.bound
    ∙ sym (ap (λ o. elim o [ None ↦ true | Some d ↦ list_all (in_operand_class t f d.effect) (bound t i) && widths_fit t f d.effect i.operands ]) h.opcode)

pub v3_is : (t : Target) (f : Function) (a : SortedInstr) → IsSortedInstr t a.instr.now a → list_all (λ o. has_class f o.loc) a.named.items ≡ V3 f a.instr.now
unfolding V3
v3_is t f a h = rw h.named refl

pub v4_is : (t : Target) (f : Function) (a : SortedInstr) → IsSortedInstr t a.instr.now a → (list_all (λ o. index_fits t f o.loc o.index) a.named.items && (not (puts_together a.desc.now.effect) || subregs_fit t f a.instr.now.operands)) ≡ V4 t f a.instr.now
unfolding V4
v4_is t f a h = rw (h.opcode, h.named) refl

pub v11_is : (t : Target) (form : Form) (f : Function) (a : SortedInstr) → IsSortedInstr t a.instr.now a → (list_all flags_fit (seen_all a.bound.items) && list_all (ties.pair_fits t form f) (filter_map (tied_pair a.instr.now.operands) (seen_all a.bound.items))) ≡ V11 t form f a.instr.now
unfolding V11
v11_is t form f a h = rw h.bound refl

pub v12_is : (t : Target) (form : Form) (f : Function) (a : SortedInstr) → IsSortedInstr t a.instr.now a → ties.definitions_fit t form f (is_opaque a.desc.now.effect) a.named.items (seen_all a.bound.items) ≡ V12 t form f a.instr.now
unfolding V12
v12_is t form f a h = rw (h.opcode, h.bound, h.named) refl

slot_alike : (s : NumberSet) (f : Function) → HoldsSlots s f → (b : Bound) → ties.slot_fits s b ≡ slot_fits f b
slot_alike s f h (r, operands.Stack n) = ap (beq (passes is_slot r)) (h n)
slot_alike s f h (r, operands.Reg o) = refl
slot_alike s f h (r, operands.Imm z) = refl
slot_alike s f h (r, operands.Block n) = refl
slot_alike s f h (r, operands.FixedStack n) = refl
slot_alike s f h (r, operands.Symbol w) = refl
slot_alike s f h (r, operands.Index x) = refl
slot_alike s f h (r, operands.Mask m) = refl

pub v15_source : (t : Target) (f : Function) (a : SortedInstr) → IsSortedInstr t a.instr.now a → not (spills_or_reloads a.desc.now.effect) ≡ V15 t forms.Source f a.instr.now
unfolding V15
v15_source t f a h = rw h.opcode refl

pub v15_allocated : (t : Target) (f : Function) (s : NumberSet) (a : SortedInstr) → IsSortedInstr t a.instr.now a → HoldsSlots s f → list_all (ties.slot_fits s) (seen_all a.bound.items) ≡ V15 t forms.Allocated f a.instr.now
unfolding V15
v15_allocated t f s a h g = rw h.bound (list_all_alike (ties.slot_fits s) (slot_fits f) (slot_alike s f g) (bound t a.instr.now))

pub bound_is : (t : Target) (i : Instr) (d : OpcodeDesc) → known_opcode t i.op ≡ Some d → (explicit_bound (explicit_roles d.roles) (explicit_operands i.operands) ++ map (implicit_bound (implicit_roles d.roles)) (implicit_registers i.operands)) ≡ bound t i
bound_is t i d h =
    let roles : d.roles ≡ roles_of t i = sym (ap (λ o. elim o [ None ↦ [] | Some x ↦ x.roles ]) h) in
    ap (λ rs. explicit_bound (explicit_roles rs) (explicit_operands i.operands) ++ map (implicit_bound (implicit_roles rs)) (implicit_registers i.operands)) roles

pub v5_is : (f : Function) (k : ℕ) (b : Block) (numbers seen : NumberSet) → Holds numbers (block_numbers f.blocks) → Holds seen (block_numbers (take k f.blocks)) → (not (has seen b.number) && list_all (has numbers) (successors_of b ++ flat_map named_blocks b.instrs)) ≡ V5 f k b
unfolding V5
v5_is f k b numbers seen h g =
    let e : list_all (has numbers) (successors_of b ++ flat_map named_blocks b.instrs) ≡ list_all (has_number (block_numbers f.blocks)) (successors_of b ++ flat_map named_blocks b.instrs) = list_all_alike (has numbers) (has_number (block_numbers f.blocks)) h (successors_of b ++ flat_map named_blocks b.instrs) in
    ap (λ x. not x && list_all (has numbers) (successors_of b ++ flat_map named_blocks b.instrs)) (g b.number) ∙ ap (λ x. not (has_number (block_numbers (take k f.blocks)) b.number) && x) e
