-- What is entered of an instruction with a known opcode, and of one with an excluded one.
use Rattle.std.proofs.Common.{◌≡◌, Bool, true, false, cond, List, [], Option, Some, None, map, refl, ap, ◌∙◌}
use Rattle.std.specs.Prelude.{option_map}
use Rattle.target_base.specs.declared.types.OpcodeDesc.{OpcodeDesc}
use Rattle.target_base.specs.declared.types.Role.{Role}
use Rattle.target_base.specs.declared.types.Effect.{Effect}
use Rattle.target_base.specs.declared.types.Target.{Target}
use Rattle.target_base.specs.Roles.{is_silent}
use Rattle.mir_func.specs.declared.func.Instr.{Instr}
use Rattle.mir_func.specs.Value.{Function}
use Rattle.mir_func.specs.Binding.{known_opcode, roles_of}
use Rattle.mir_meaning.specs.Items.{silent_reads, values}
use Rattle.instr_effects.specs.Acts.{acts_of, read_owners, effect_owners, effect_acts, effect_reads, counted_owners, entered_reads, entered_writes}
use Rattle.instr_effects.proofs.Readings.{counted-read}

abbrev roles_in : Option OpcodeDesc → List Role
roles_in o = elim o [ None ↦ [] | Some d ↦ d.roles ]

abbrev effect_in : Option OpcodeDesc → Option Effect
effect_in o = option_map (λ d. d.effect) o

module _ (t : Target) (f : Function) (i : Instr) where
  pub writes_unknown : known_opcode t i.op ≡ None → acts_of (entered_writes t f i) ≡ []
  unfolding entered_writes
  writes_unknown e = ap (λ o. acts_of (elim (effect_in o) [ None ↦ [] | Some x ↦ effect_acts t f x (roles_of t i) i.operands ])) e

  pub writes_known : (d : OpcodeDesc) → known_opcode t i.op ≡ Some d → acts_of (entered_writes t f i) ≡ acts_of (effect_acts t f d.effect d.roles i.operands)
  unfolding entered_writes
  writes_known d e = ap (λ o. acts_of (elim (effect_in o) [ None ↦ [] | Some x ↦ effect_acts t f x (roles_in o) i.operands ])) e

  pub reads_unknown : known_opcode t i.op ≡ None → read_owners (entered_reads t f i) ≡ []
  unfolding entered_reads
  reads_unknown e = ap (λ o. read_owners (elim (effect_in o) [ None ↦ [] | Some x ↦ effect_reads t f x i ])) e

  owners-of : (x : Effect) → read_owners (effect_reads t f x i) ≡ effect_owners t f x (roles_of t i) i.operands
  owners-of x = go (is_silent x)
    where
      go : (b : Bool) → read_owners (cond b (silent_reads t f x i.operands) (map (λ v. v.0) (values t f x i))) ≡ cond b (read_owners (silent_reads t f x i.operands)) (counted_owners t f x (roles_of t i) i.operands)
      go true = refl
      go false = counted-read t f x i

  pub reads_known : (d : OpcodeDesc) → known_opcode t i.op ≡ Some d → read_owners (entered_reads t f i) ≡ effect_owners t f d.effect d.roles i.operands
  unfolding entered_reads
  reads_known d e = ap (λ o. read_owners (elim (effect_in o) [ None ↦ [] | Some x ↦ effect_reads t f x i ])) e ∙ owners-of d.effect ∙ ap (λ o. effect_owners t f d.effect (roles_in o) i.operands) e
