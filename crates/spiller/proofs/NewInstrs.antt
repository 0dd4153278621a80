-- Stores, reloads and repeated instructions may be put: none is a phi or a terminator.
use Rattle.std.proofs.Common.{◌≡◌, ◌∙◌, ℕ, Bool, true, false, List, [], ◌∷◌, Option, Some, None, drop, get_or, refl, sym, ap, arith}
use Rattle.std.specs.Prelude.{option_and_then, option_map, position, slice_get}
use Rattle.std.proofs.lemmas.List.Quantifiers.{position-Some}
use Rattle.std.proofs.lemmas.Option.{slice_get-get_or}
use Rattle.target_base.specs.declared.types.ClassId.{ClassId}
use Rattle.target_base.specs.declared.types.Effect.{Effect}
use Rattle.target_base.specs.declared.types.Effect.TheVariants as effects
use Rattle.target_base.specs.declared.types.OpcodeDesc.{OpcodeDesc}
use Rattle.target_base.specs.declared.types.OpId.{OpId}
use Rattle.target_base.specs.declared.types.Target.{Target}
use Rattle.target_base.specs.Registers.{regs_of, reload_place, spill_place}
use Rattle.target_base.specs.Rules.{is_phi, is_reload, is_spill, operand_regs, reloads, spills}
use Rattle.target_base.specs.Storage.{is_within}
use Rattle.target_base.proofs.Tests.{first_of_both, position_within}
use Rattle.mir_func.specs.declared.func.RegOp.{RegOp}
use Rattle.mir_func.specs.declared.func.Op.{Op}
use Rattle.mir_func.specs.declared.func.Op.TheVariants as ops
use Rattle.mir_func.specs.declared.func.Operand.{Operand}
use Rattle.mir_func.specs.declared.func.Operand.TheVariants as operands
use Rattle.mir_func.specs.declared.func.Instr.{Instr}
use Rattle.mir_func.specs.Edits.{made}
use Rattle.mir_func.specs.Binding.{does, effect_of, is_terminator, known_opcode, passes}
use Rattle.edit_laws.specs.Edits.{IsPlain}
use Rattle.lowering_laws.proofs.Placed.{copy-effect}
use Rattle.spiller.specs.Setting.{opcode, reload, store}
use Rattle.spiller.specs.Rematerialised.{is_constant, repeated}
use Rattle.spiller.specs.Planned.{known_op}
use Rattle.spiller.proofs.PlaceEdits.{IsNew}
use Rattle.spiller.proofs.Singles.{spill-effect, reload-effect}

found : {X : Type 0} (p : X → Bool) (xs : List X) (n : ℕ) → position p xs ≡ Some n → (x : X) × (slice_get xs n ≡ Some x) × (p x ≡ true)
found p [] n e = absurd (let h = position_within p [] n e in omega arith)
found p (y ∷ ys) n e = let z = position-Some p (y ∷ ys) n y e in (get_or (y ∷ ys) n y, slice_get-get_or (y ∷ ys) n y z.0, z.1)

-- an instruction whose opcode has an effect is of a known opcode
pub op-of : (t : Target) (test : Effect → Bool) (i : Instr) → does test t i ≡ true → (op : OpId) × (i.op ≡ ops.Known op)
op-of t test i h = go i.op refl h
  where
    go : (q : Op) → i.op ≡ q → passes test (option_map (λ (d : OpcodeDesc). d.effect) (known_opcode t q)) ≡ true → (op : OpId) × (i.op ≡ ops.Known op)
    go (ops.Known op) e g = (op, e)
    go (ops.Excluded name) e g = absurd (cc)

pub known-op : (q : Op) (op : OpId) → q ≡ ops.Known op → q ≡ ops.Known (known_op q)
known-op q op e = e ∙ sym (ap (λ (p : Op). ops.Known (known_op p)) e)

constant-plain : (q : Option Effect) → passes is_constant q ≡ true → (passes is_phi q ≡ false) × (passes is_terminator q ≡ false)
constant-plain None h = (refl, refl)
constant-plain (Some effects.Const) h = (refl, refl)
constant-plain (Some effects.Addr) h = (refl, refl)
constant-plain (Some e) h = absurd (cc)

module _ (t : Target) where
  pub plain-of : (e : Effect) → is_phi e ≡ false → is_terminator e ≡ false → (i : Instr) → effect_of t i ≡ Some e → IsPlain t i
  plain-of e p q i known = (ap (passes is_phi) known ∙ p, ap (passes is_terminator) known ∙ q)

  pub constant-is-plain : (i : Instr) → does is_constant t i ≡ true → IsPlain t i
  constant-is-plain i h = constant-plain (effect_of t i) h

  abbrev Moves : Effect → (ClassId → Option ℕ) → Type 0
  Moves e place = (k : ClassId) (n : ℕ) → place k ≡ Some n → (d : OpcodeDesc) × (slice_get t.opcodes n ≡ Some d) × (d.effect ≡ e)

  spill-moves : Moves effects.Spill (spill_place t)
  spill-moves k n e =
      let z = found (spills t.classes (regs_of t k)) t.opcodes n e in
      (z.0, z.1, spill-effect z.0.effect (first_of_both (is_spill z.0.effect) (is_within (regs_of t k) (operand_regs t.classes z.0)) z.2))

  reload-moves : Moves effects.Reload (reload_place t)
  reload-moves k n e =
      let z = found (reloads t.classes (regs_of t k)) t.opcodes n e in
      (z.0, z.1, reload-effect z.0.effect (first_of_both (is_reload z.0.effect) (is_within (regs_of t k) (operand_regs t.classes z.0)) z.2))

  -- whatever the class
  opcode-plain : (e : Effect) → is_phi e ≡ false → is_terminator e ≡ false → (place : ClassId → Option ℕ) → Moves e place → (k : Option ClassId) (os : List Operand) → IsPlain t (made 0 (opcode (option_and_then place k)) os)
  opcode-plain e p q place moves None os = plain-of effects.Copy refl refl (made 0 (opcode None) os) (copy-effect t (made 0 (opcode None) os) refl)
  opcode-plain e p q place moves (Some k) os = go (place k) refl
    where
      go : (x : Option ℕ) → place k ≡ x → IsPlain t (made 0 (opcode x) os)
      go None h = plain-of effects.Copy refl refl (made 0 (opcode None) os) (copy-effect t (made 0 (opcode None) os) refl)
      go (Some n) h = let z = moves k n h in plain-of e p q (made 0 (opcode (Some n)) os) (ap (λ x. option_map (λ (d : OpcodeDesc). d.effect) x) z.1 ∙ ap Some z.2)

  pub store-new : (k : Option ClassId) (o : RegOp) (slot : List Operand) → IsNew t (store t k o slot)
  store-new k o slot = record { same = refl; plain = opcode-plain effects.Spill refl refl (spill_place t) spill-moves k (operands.Reg o ∷ slot) }

  pub reload-new : (k : Option ClassId) (o : RegOp) (slot : List Operand) → IsNew t (reload t k o slot)
  reload-new k o slot = record { same = refl; plain = opcode-plain effects.Reload refl refl (reload_place t) reload-moves k (operands.Reg o ∷ slot) }

  pub repeated-new : (d : Instr) (o : RegOp) → does is_constant t d ≡ true → IsNew t (repeated d o)
  repeated-new d o h =
      let z = op-of t is_constant d h in
      record {
        same = ap (λ (q : Op). record { id = 0; op = q; flags = []; operands = operands.Reg o ∷ drop 1 d.operands; tail = [] }) (known-op d.op z.0 z.1);
        plain = constant-is-plain d h;
      }
