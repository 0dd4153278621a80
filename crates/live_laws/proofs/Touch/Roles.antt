-- Explicit operands by the roles of their opcode.
use Rattle.std.proofs.Common.{◌≡◌, ℕ, zero, suc, Bool, true, false, cond, not, eqb, List, [], ◌∷◌, Option, Some, None, refl, sym, ap, ◌∙◌, subst, drop}
use Rattle.std.specs.Prelude.{◌&&◌, ◌||◌, count_by, nat_eq, option_map, slice_get}
use Rattle.std.proofs.lemmas.List.Folds.{sum_by-zero}
use Rattle.std.specs.List.{list_all}
use Rattle.target_base.specs.declared.types.Effect.{Effect}
use Rattle.target_base.specs.declared.types.Effect.TheVariants as effects
use Rattle.target_base.specs.declared.types.OpcodeDesc.{OpcodeDesc}
use Rattle.target_base.specs.declared.types.Role.{Role}
use Rattle.target_base.specs.declared.types.Role.TheVariants as roles
use Rattle.target_base.specs.declared.types.Target.{Target}
use Rattle.target_base.specs.Roles.{is_silent, is_implicit, explicit_shape, shape_fits, has_shape, roles_fit, is_immediate, is_frame_or_symbol, is_slot, is_lanes, is_definition as is_definition_role, is_use as is_use_role}
use Rattle.target_base.specs.Rules.{is_phi, is_copy, is_implicit_def, is_reg_sequence, is_insert_subreg, starts_with_the_five, is_opcode_desc}
use Rattle.target_base.proofs.Tests.{first_of_both, second_of_both}
use Rattle.target_base.proofs.Sound.{opcodes_sound}
use Rattle.mir_func.specs.declared.func.RegOp.{RegOp}
use Rattle.mir_func.specs.declared.func.Operand.{Operand}
use Rattle.mir_func.specs.declared.func.Operand.TheVariants as operands
use Rattle.mir_func.specs.declared.func.Op.{Op}
use Rattle.mir_func.specs.declared.func.Op.TheVariants as ops
use Rattle.mir_func.specs.declared.func.Instr.{Instr}
use Rattle.mir_func.specs.Value.{Function}
use Rattle.mir_func.specs.Binding.{effect_of, explicit_operands, explicit_roles, implicit_registers, known_opcode, takes_many, is_virtual}
use Rattle.mir_meaning.specs.Rules.{V1, explicit_fit, fits_at, fits_opaque, fits_role, is_opaque, operands_fit, values_fit}
use Rattle.meaning.specs.Live.{Among as Member, here as first, there as later}
use Rattle.instr_effects.proofs.Members.{member-none, member-elim}
use Rattle.live_laws.proofs.Effects.Lists.{all-of}
use Rattle.live_laws.proofs.Effects.Blocks.{slice-member}

same : {X : Type 0} (x y : X) → Some x ≡ Some y → x ≡ y
same x y e = cc

-- opcodes with roles are none of the five

abbrev pub has_roles : Effect → Bool
has_roles effects.Copy = false
has_roles effects.Phi = false
has_roles effects.ImplicitDef = false
has_roles effects.RegSequence = false
has_roles effects.InsertSubreg = false
has_roles e = true

not-copy : (e : Effect) → is_copy e ≡ true → has_roles e ≡ true → ⊥
not-copy effects.Copy h g = cc
not-copy e h g = cc

not-phi : (e : Effect) → is_phi e ≡ true → has_roles e ≡ true → ⊥
not-phi effects.Phi h g = cc
not-phi e h g = cc

not-undef : (e : Effect) → is_implicit_def e ≡ true → has_roles e ≡ true → ⊥
not-undef effects.ImplicitDef h g = cc
not-undef e h g = cc

not-sequence : (e : Effect) → is_reg_sequence e ≡ true → has_roles e ≡ true → ⊥
not-sequence effects.RegSequence h g = cc
not-sequence e h g = cc

not-insert : (e : Effect) → is_insert_subreg e ≡ true → has_roles e ≡ true → ⊥
not-insert effects.InsertSubreg h g = cc
not-insert e h g = cc

module _ (t : Target) where
  desc-fits : (os : List OpcodeDesc) (k : ℕ) (d : OpcodeDesc) → slice_get os k ≡ Some d → has_roles d.effect ≡ true → starts_with_the_five os ≡ true → list_all (is_opcode_desc t.units t.regs t.classes) (drop 5 os) ≡ true → roles_fit t.units t.regs t.classes d.effect d.roles ≡ true
  desc-fits [] k d g h five rest = absurd (cc)
  desc-fits (a ∷ []) k d g h five rest = absurd (cc)
  desc-fits (a ∷ b ∷ []) k d g h five rest = absurd (cc)
  desc-fits (a ∷ b ∷ c ∷ []) k d g h five rest = absurd (cc)
  desc-fits (a ∷ b ∷ c ∷ x ∷ []) k d g h five rest = absurd (cc)
  desc-fits (a ∷ b ∷ c ∷ x ∷ y ∷ os) zero d g h five rest =
      let q = first_of_both _ _ (first_of_both _ _ (first_of_both _ _ (first_of_both _ _ five))) in
      absurd (not-copy a.effect (second_of_both _ _ (first_of_both _ _ q)) (subst (λ z. has_roles z.effect ≡ true) (sym (same a d g)) h))
  desc-fits (a ∷ b ∷ c ∷ x ∷ y ∷ os) (suc zero) d g h five rest =
      let q = second_of_both _ _ (first_of_both _ _ (first_of_both _ _ (first_of_both _ _ five))) in
      absurd (not-phi b.effect (second_of_both _ _ (first_of_both _ _ q)) (subst (λ z. has_roles z.effect ≡ true) (sym (same b d g)) h))
  desc-fits (a ∷ b ∷ c ∷ x ∷ y ∷ os) (suc (suc zero)) d g h five rest =
      let q = second_of_both _ _ (first_of_both _ _ (first_of_both _ _ five)) in
      absurd (not-undef c.effect (second_of_both _ _ (first_of_both _ _ q)) (subst (λ z. has_roles z.effect ≡ true) (sym (same c d g)) h))
  desc-fits (a ∷ b ∷ c ∷ x ∷ y ∷ os) (suc (suc (suc zero))) d g h five rest =
      let q = second_of_both _ _ (first_of_both _ _ five) in
      absurd (not-sequence x.effect (second_of_both _ _ (first_of_both _ _ q)) (subst (λ z. has_roles z.effect ≡ true) (sym (same x d g)) h))
  desc-fits (a ∷ b ∷ c ∷ x ∷ y ∷ os) (suc (suc (suc (suc zero)))) d g h five rest =
      let q = second_of_both _ _ five in
      absurd (not-insert y.effect (second_of_both _ _ (first_of_both _ _ q)) (subst (λ z. has_roles z.effect ≡ true) (sym (same y d g)) h))
  desc-fits (a ∷ b ∷ c ∷ x ∷ y ∷ os) (suc (suc (suc (suc (suc k))))) d g h five rest =
      let good = all-of (is_opcode_desc t.units t.regs t.classes) d os (slice-member os k d g) rest in
      second_of_both _ _ good

  opcode-fits : (k : ℕ) (d : OpcodeDesc) → slice_get t.opcodes k ≡ Some d → has_roles d.effect ≡ true → roles_fit t.units t.regs t.classes d.effect d.roles ≡ true
  opcode-fits k d g h =
      let all = opcodes_sound t.name t.version t.units t.regs t.reserved t.indexes t.classes t.masks t.opcodes t.sound in
      desc-fits t.opcodes k d g h (second_of_both _ _ (first_of_both _ _ (first_of_both _ _ all))) (second_of_both _ _ (first_of_both _ _ all))

  -- the roles of an opcode are those that its effect asks for
  pub known-desc : (o : Op) (d : OpcodeDesc) → known_opcode t o ≡ Some d → has_roles d.effect ≡ true → roles_fit t.units t.regs t.classes d.effect d.roles ≡ true
  known-desc (ops.Known o) d e h = opcode-fits o.0 d e h
  known-desc (ops.Excluded name) d e h = absurd (cc)

-- explicit roles pass the tests of their effect, where it has any
pub known-shape : (t : Target) (e : Effect) (rs : List Role) (tests : List (Role → Bool)) → explicit_shape e ≡ Some tests → roles_fit t.units t.regs t.classes e rs ≡ true → has_shape tests rs ≡ true
known-shape t effects.Copy rs tests g h = absurd (cc)
known-shape t effects.Phi rs tests g h = absurd (cc)
known-shape t effects.ImplicitDef rs tests g h = absurd (cc)
known-shape t effects.RegSequence rs tests g h = absurd (cc)
known-shape t effects.InsertSubreg rs tests g h = absurd (cc)
known-shape t (effects.Opaque kind) rs tests g h = absurd (cc)
known-shape t e rs tests g h = subst (λ x. shape_fits x rs ≡ true) g (first_of_both _ _ (first_of_both _ _ (first_of_both _ _ (first_of_both _ _ (first_of_both _ _ h)))))

-- a silent effect isn't opaque
silent-known : (e : Effect) → is_silent e ≡ true → is_opaque e ≡ false
silent-known (effects.Opaque kind) h = absurd (cc)
silent-known e h = refl

-- where the effect isn't opaque an operand is of the kind that the role asks for at any
plain-fit : (t : Target) (e : Effect) (r : Role) (o : Operand) → is_opaque e ≡ false → fits_at t e r o ≡ true → fits_role r o ≡ true
plain-fit t e r o q h = go (fits_role r o) (subst (λ b. (fits_role r o || (b && fits_opaque t r o)) ≡ true) q h)
  where
    go : (b : Bool) → (b || false) ≡ true → b ≡ true
    go true h = refl
    go false h = h

-- none of the roles passes a test that they pass 0 times
pub none-counted : (test : Role → Bool) (rs : List Role) (r : Role) → nat_eq (count_by test rs) 0 ≡ true → Member r rs → test r ≡ false
none-counted test rs r e m =
    let all = sym (sum_by-zero (λ x. cond (test x) 1 0) rs) ∙ e in
    go (test r) (all-of (λ x. eqb (cond (test x) 1 0) 0) r rs m all)
  where
    go : (b : Bool) → eqb (cond b 1 0) 0 ≡ true → b ≡ false
    go true h = absurd (cc)
    go false h = refl

-- an explicit operand that fits takes a role
pub fit-role : (t : Target) (e : Effect) (rs : List Role) (os : List Operand) (o : Operand) → explicit_fit t e rs os ≡ true → Member o os → (r : Role) × Member r rs × (fits_at t e r o ≡ true)
fit-role t e rs [] o h m = absurd (member-none o m)
fit-role t e [] (x ∷ os) o h m = absurd (cc)
fit-role t e (r ∷ rs) (x ∷ os) o h m =
    let fits = first_of_both (fits_at t e r x) (explicit_fit t e (cond (takes_many r) (r ∷ rs) rs) os) h in
    let more = second_of_both (fits_at t e r x) (explicit_fit t e (cond (takes_many r) (r ∷ rs) rs) os) h in
    member-elim o x os (λ q. (r, first, ap (fits_at t e r) q ∙ fits)) (λ k. let z = fit-role t e (cond (takes_many r) (r ∷ rs) rs) os o more k in (z.0, within (takes_many r) z.0 z.1, z.2)) m
  where
    within : (b : Bool) (q : Role) → Member q (cond b (r ∷ rs) rs) → Member q (r ∷ rs)
    within true q k = k
    within false q k = later k

-- operands by tests of their roles

-- the test passes explicit roles of one operand
abbrev IsSingle : (Role → Bool) → Type 0
IsSingle test = (r : Role) → test r ≡ true → (is_implicit r ≡ false) × (takes_many r ≡ false)

abbrev AreSingle : List (Role → Bool) → Type 0
AreSingle [] = Unit {0}
AreSingle (test ∷ tests) = IsSingle test × AreSingle tests

-- the operand takes a role that passes the test
abbrev pub Takes : (Role → Bool) → Operand → Type 0
Takes test o = (r : Role) × (test r ≡ true) × (fits_role r o ≡ true)

-- operands take roles that pass these tests, one after the other
abbrev pub TakeAll : List (Role → Bool) → List Operand → Type 0
TakeAll [] [] = Unit {0}
TakeAll [] (o ∷ os) = ⊥
TakeAll (test ∷ tests) [] = ⊥
TakeAll (test ∷ tests) (o ∷ os) = Takes test o × TakeAll tests os

pub none-explicit : (rs : List Role) → list_all is_implicit rs ≡ true → explicit_roles rs ≡ []
none-explicit [] e = refl
none-explicit (r ∷ rs) e = ap (λ b. cond (not b) (r ∷ explicit_roles rs) (explicit_roles rs)) (first_of_both (is_implicit r) (list_all is_implicit rs) e) ∙ none-explicit rs (second_of_both (is_implicit r) (list_all is_implicit rs) e)

nothing-left : (t : Target) (e : Effect) (os : List Operand) → explicit_fit t e [] os ≡ true → TakeAll [] os
nothing-left t e [] h = tt
nothing-left t e (o ∷ os) h = cc

take-all : (t : Target) (e : Effect) → is_opaque e ≡ false → (tests : List (Role → Bool)) (rs : List Role) (os : List Operand) → AreSingle tests → has_shape tests rs ≡ true → explicit_fit t e (explicit_roles rs) os ≡ true → TakeAll tests os
take-all t e known [] rs os s h x = nothing-left t e os (subst (λ qs. explicit_fit t e qs os ≡ true) (none-explicit rs h) x)
take-all t e known (test ∷ tests) [] os s h x = absurd (cc)
take-all t e known (test ∷ tests) (r ∷ rs) os s h x =
    let p = first_of_both (test r) (has_shape tests rs) h in
    let z = s.0 r p in
    let more = second_of_both (test r) (has_shape tests rs) h in
    go os z.1 p (subst (λ b. explicit_fit t e (cond (not b) (r ∷ explicit_roles rs) (explicit_roles rs)) os ≡ true) z.0 x) (λ qs g. take-all t e known tests rs qs s.1 more g)
  where
    go : (os : List Operand) → takes_many r ≡ false → test r ≡ true → explicit_fit t e (r ∷ explicit_roles rs) os ≡ true → ((qs : List Operand) → explicit_fit t e (explicit_roles rs) qs ≡ true → TakeAll tests qs) → TakeAll (test ∷ tests) os
    go [] m p g ih = let n = first_of_both (takes_many r) (list_all takes_many (explicit_roles rs)) g in cc
    go (o ∷ os) m p g ih =
        let n = second_of_both (fits_at t e r o) (explicit_fit t e (cond (takes_many r) (r ∷ explicit_roles rs) (explicit_roles rs)) os) g in
        ((r, p, plain-fit t e r o known (first_of_both (fits_at t e r o) (explicit_fit t e (cond (takes_many r) (r ∷ explicit_roles rs) (explicit_roles rs)) os) g)), ih os (subst (λ b. explicit_fit t e (cond b (r ∷ explicit_roles rs) (explicit_roles rs)) os ≡ true) m n))

definition-single : IsSingle is_definition_role
definition-single (roles.Def k) e = (refl, refl)
definition-single (roles.Early k) e = (refl, refl)
definition-single r e = absurd (cc)

use-single : IsSingle is_use_role
use-single (roles.Read k) e = (refl, refl)
use-single (roles.Tied k n) e = (refl, refl)
use-single r e = absurd (cc)

immediate-single : IsSingle is_immediate
immediate-single roles.Imm e = (refl, refl)
immediate-single r e = absurd (cc)

object-single : IsSingle is_frame_or_symbol
object-single roles.Frame e = (refl, refl)
object-single roles.Sym e = (refl, refl)
object-single r e = absurd (cc)

slot-single : IsSingle is_slot
slot-single roles.Slot e = (refl, refl)
slot-single r e = absurd (cc)

lanes-single : IsSingle is_lanes
lanes-single roles.Lanes e = (refl, refl)
lanes-single r e = absurd (cc)

pub all-explicit : (os : List Operand) → implicit_registers os ≡ [] → explicit_operands os ≡ os
all-explicit [] e = refl
all-explicit (operands.Reg o ∷ os) e = go o.implicit e (all-explicit os)
  where
    go : (b : Bool) → cond b (o ∷ implicit_registers os) (implicit_registers os) ≡ [] → (implicit_registers os ≡ [] → explicit_operands os ≡ os) → cond (not b) (operands.Reg o ∷ explicit_operands os) (explicit_operands os) ≡ operands.Reg o ∷ os
    go true h ih = absurd (cc)
    go false h ih = ap (λ ys. operands.Reg o ∷ ys) (ih h)
all-explicit (operands.Imm x ∷ os) e = ap (λ ys. operands.Imm x ∷ ys) (all-explicit os e)
all-explicit (operands.Block x ∷ os) e = ap (λ ys. operands.Block x ∷ ys) (all-explicit os e)
all-explicit (operands.Stack x ∷ os) e = ap (λ ys. operands.Stack x ∷ ys) (all-explicit os e)
all-explicit (operands.FixedStack x ∷ os) e = ap (λ ys. operands.FixedStack x ∷ ys) (all-explicit os e)
all-explicit (operands.Symbol x ∷ os) e = ap (λ ys. operands.Symbol x ∷ ys) (all-explicit os e)
all-explicit (operands.Index x ∷ os) e = ap (λ ys. operands.Index x ∷ ys) (all-explicit os e)
all-explicit (operands.Mask x ∷ os) e = ap (λ ys. operands.Mask x ∷ ys) (all-explicit os e)

pub no-implicit : (d : OpcodeDesc) (os : List RegOp) → is_silent d.effect ≡ true → list_all (λ o. not (is_virtual o.loc) && not (is_silent d.effect)) os ≡ true → os ≡ []
no-implicit d [] s e = refl
no-implicit d (o ∷ os) s e = absurd (let h = second_of_both (not (is_virtual o.loc)) (not (is_silent d.effect)) (first_of_both (not (is_virtual o.loc) && not (is_silent d.effect)) _ e) in cc)

-- what an opcode with roles asks of the operands
pub record Fit (t : Target) (f : Function) (d : OpcodeDesc) (os : List Operand) (e : Effect) : Type 0 where
  pub explicit : explicit_fit t e (explicit_roles d.roles) (explicit_operands os) ≡ true
  pub implicit : list_all (λ o. not (is_virtual o.loc) && not (is_silent d.effect)) (implicit_registers os) ≡ true
  pub values : values_fit t f e os ≡ true

pub fit-by : (t : Target) (f : Function) (d : OpcodeDesc) (os : List Operand) (e : Effect) → has_roles e ≡ true → operands_fit t f d os e ≡ true → Fit t f d os e
fit-by t f d os effects.Copy h g = absurd (cc)
fit-by t f d os effects.ImplicitDef h g = absurd (cc)
fit-by t f d os effects.Phi h g = absurd (cc)
fit-by t f d os effects.RegSequence h g = absurd (cc)
fit-by t f d os effects.InsertSubreg h g = absurd (cc)
fit-by t f d os e h g = record { explicit = second_of_both _ _ (first_of_both _ _ (first_of_both _ _ g)); implicit = first_of_both _ _ (second_of_both _ _ (first_of_both _ _ g)); values = second_of_both _ _ g }

-- the operands of a silent opcode with roles
silent-takes : (t : Target) (f : Function) (d : OpcodeDesc) (os : List Operand) (e : Effect) (tests : List (Role → Bool)) → AreSingle tests → has_shape tests d.roles ≡ true → is_silent d.effect ≡ true → is_opaque e ≡ false → Fit t f d os e → TakeAll tests os
silent-takes t f d os e tests s h q known fit = take-all t e known tests d.roles os s h (subst (λ ps. explicit_fit t e (explicit_roles d.roles) ps ≡ true) (all-explicit os (no-implicit d (implicit_registers os) q fit.implicit)) fit.explicit)

module _ (t : Target) (f : Function) (i : Instr) (e : Effect) (known : effect_of t i ≡ Some e) (rule : V1 t f i ≡ true) where
  -- the opcode's description
  pub met : (d : OpcodeDesc) × (known_opcode t i.op ≡ Some d) × (d.effect ≡ e) × (operands_fit t f d i.operands e ≡ true)
  unfolding V1
  met = go (known_opcode t i.op) refl rule known
    where
      go : (q : Option OpcodeDesc) → known_opcode t i.op ≡ q → elim q [ None ↦ true | Some d ↦ operands_fit t f d i.operands d.effect ] ≡ true → option_map (λ d. d.effect) q ≡ Some e → (d : OpcodeDesc) × (known_opcode t i.op ≡ Some d) × (d.effect ≡ e) × (operands_fit t f d i.operands e ≡ true)
      go None g h k = absurd (cc)
      go (Some d) g h k = (d, g, same d.effect e k, subst (λ x. operands_fit t f d i.operands x ≡ true) (same d.effect e k) h)

  pub fit : has_roles e ≡ true → Fit t f met.0 i.operands e
  fit h = fit-by t f met.0 i.operands e h met.3

  pub roles-sound : has_roles e ≡ true → roles_fit t.units t.regs t.classes e met.0.roles ≡ true
  roles-sound h = subst (λ x. roles_fit t.units t.regs t.classes x met.0.roles ≡ true) met.2 (known-desc t i.op met.0 met.1 (ap has_roles met.2 ∙ h))

  by-tests : (tests : List (Role → Bool)) → has_roles e ≡ true → explicit_shape e ≡ Some tests → is_silent e ≡ true → AreSingle tests → TakeAll tests i.operands
  by-tests tests h g q s = silent-takes t f met.0 i.operands e tests s (known-shape t e met.0.roles tests g (roles-sound h)) (ap is_silent met.2 ∙ q) (silent-known e q) (fit h)

module _ (t : Target) (f : Function) (i : Instr) (rule : V1 t f i ≡ true) where
  pub const-takes : effect_of t i ≡ Some effects.Const → TakeAll (is_definition_role ∷ is_immediate ∷ []) i.operands
  const-takes known = by-tests t f i effects.Const known rule (is_definition_role ∷ is_immediate ∷ []) refl refl refl (definition-single, (immediate-single, tt))

  pub addr-takes : effect_of t i ≡ Some effects.Addr → TakeAll (is_definition_role ∷ is_frame_or_symbol ∷ []) i.operands
  addr-takes known = by-tests t f i effects.Addr known rule (is_definition_role ∷ is_frame_or_symbol ∷ []) refl refl refl (definition-single, (object-single, tt))

  pub spill-takes : effect_of t i ≡ Some effects.Spill → TakeAll (is_use_role ∷ is_slot ∷ is_lanes ∷ []) i.operands
  spill-takes known = by-tests t f i effects.Spill known rule (is_use_role ∷ is_slot ∷ is_lanes ∷ []) refl refl refl (use-single, (slot-single, (lanes-single, tt)))

  pub reload-takes : effect_of t i ≡ Some effects.Reload → TakeAll (is_definition_role ∷ is_slot ∷ is_lanes ∷ []) i.operands
  reload-takes known = by-tests t f i effects.Reload known rule (is_definition_role ∷ is_slot ∷ is_lanes ∷ []) refl refl refl (definition-single, (slot-single, (lanes-single, tt)))
