-- The rules of an instruction, over its operands as code sorts them.
use Rattle.std.specs.Prelude.{◌≡◌, ℕ, Bool, cond, not, ◌&&◌, ◌||◌, List, [], ◌∷◌, Option, Some, None, flat_map, take}
use Rattle.std.specs.List.{list_all, list_any}
use Rattle.target_base.specs.declared.types.Effect.{Effect}
use Rattle.target_base.specs.declared.types.OpcodeDesc.{OpcodeDesc}
use Rattle.target_base.specs.declared.types.Target.{Target}
use Rattle.target_base.specs.Rules.{is_phi}
use Rattle.mir_func.specs.declared.func.Instr.{Instr}
use Rattle.mir_func.specs.Value.{Function}
use Rattle.mir_meaning.specs.declared.Form.{Form}
use Rattle.mir_meaning.specs.declared.Form.TheVariants as forms
use Rattle.mir_func.specs.Binding.{known_opcode, does, is_terminator, registers, bound, is_lowered_away}
use Rattle.mir_meaning.specs.Rules.{V1, V2, V3, V4, V11, V12, V15, block_of, lists_once}
use Rattle.mir_meaning.specs.Valid.{first_failing}
use Rattle.machine_verify.specs.declared.instr_rules.SortedInstr.{SortedInstr}
use Rattle.machine_verify.specs.declared.instr_rules.BlockPrefix.{BlockPrefix}
use Rattle.bound_operands.specs.Seen.{seen_all}

-- the operands of the instruction are sorted so
pub record IsSortedInstr (t : Target) (i : Instr) (a : SortedInstr) : Type 0 where
  pub instr : a.instr.now ≡ i
  pub opcode : known_opcode t i.op ≡ Some a.desc.now
  pub named : a.named.items ≡ registers i.operands
  pub bound : seen_all a.bound.items ≡ bound t i

-- V7 of an instruction of an effect, in the entry block or not, behind phis alone or not, where these blocks
-- come before its block
abbrev pub phis_fit : Form → Bool → Bool → List ℕ → Effect → Instr → Bool
phis_fit forms.Source is_entry only_phis preds e i = not (is_phi e) || (only_phis && not is_entry && lists_once (flat_map block_of i.operands) preds)
phis_fit forms.Allocated is_entry only_phis preds e i = not (is_lowered_away e)

-- V8 of an effect, behind a terminator or not
abbrev pub terminators_fit : Bool → Effect → Bool
terminators_fit terminator e = is_terminator e || not terminator

-- the rules from V11 on
abbrev pub late_rules : Target → Form → Function → Instr → List (ℕ × Bool)
late_rules t form f i = (11, V11 t form f i) ∷ (12, V12 t form f i) ∷ (15, V15 t form f i) ∷ []

-- the rules but V1
abbrev pub other_rules : Target → Form → Function → Bool → BlockPrefix → List ℕ → Effect → Instr → List (ℕ × Bool)
other_rules t form f is_entry before preds e i =
    (2, V2 t f i) ∷ (3, V3 f i) ∷ (4, V4 t f i) ∷ (7, phis_fit form is_entry before.only_phis preds e i) ∷ (8, terminators_fit before.terminator e)
    ∷ late_rules t form f i

-- the least rule that fails for an instruction of that opcode
abbrev pub known_rule : Target → Form → Function → Bool → BlockPrefix → List ℕ → Instr → OpcodeDesc → Option ℕ
known_rule t form f is_entry before preds i d = cond (V1 t f i) (first_failing (other_rules t form f is_entry before preds d.effect i)) (Some 1)

-- the least rule that fails for an instruction
abbrev pub instr_rule : Target → Form → Function → Bool → BlockPrefix → List ℕ → Instr → Option ℕ
instr_rule t form f is_entry before preds i = elim (known_opcode t i.op) [ None ↦ Some 16 | Some d ↦ known_rule t form f is_entry before preds i d ]

-- what stands before instruction j
abbrev pub before_at : Target → List Instr → ℕ → BlockPrefix
before_at t is j = record { only_phis = list_all (does is_phi t) (take j is); terminator = list_any (does is_terminator t) (take j is) }

-- what stands before the next instruction
abbrev pub after : Target → BlockPrefix → Instr → BlockPrefix
after t before i = record { only_phis = before.only_phis && does is_phi t i; terminator = before.terminator || does is_terminator t i }
