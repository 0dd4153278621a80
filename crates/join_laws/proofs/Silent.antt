-- The registers that silent instructions name: one, or a definition and a use.
use Rattle.std.proofs.Common.{◌≡◌, ◌⊎◌, inl, inr, ◌∷◌, ◌∙◌, ◌&&◌, not, Bool, true, false, cond, List, [], Some, None, map, filter, refl, sym, ap, subst}
use Rattle.std.specs.Prelude.{find}
use Rattle.target_base.specs.declared.types.Effect.{Effect}
use Rattle.target_base.specs.declared.types.Effect.TheVariants as effects
use Rattle.target_base.specs.declared.types.Role.{Role}
use Rattle.target_base.specs.declared.types.Role.TheVariants as roles
use Rattle.target_base.specs.declared.types.Target.{Target}
use Rattle.target_base.specs.Roles.{is_definition as is_definition_role, is_frame_or_symbol, is_immediate, is_lanes, is_silent, is_slot, is_use as is_use_role}
use Rattle.target_base.proofs.Tests.{second_of_both}
use Rattle.meaning.specs.Live.{Among as Member}
use Rattle.mir_func.specs.declared.func.RegOp.{RegOp}
use Rattle.mir_func.specs.declared.func.Operand.{Operand}
use Rattle.mir_func.specs.declared.func.Operand.TheVariants as operands
use Rattle.mir_func.specs.declared.func.Instr.{Instr}
use Rattle.mir_func.specs.Value.{Function}
use Rattle.mir_func.specs.Binding.{Bound, bound, effect_of, explicit_bound, explicit_operands, explicit_roles, implicit_bound, implicit_registers, implicit_roles, is_definition, is_early, is_lowered_away, is_use, passes, registers, roles_of, takes_role}
use Rattle.mir_meaning.specs.Rules.{V1, copy_fits, fits_role, implicit_def_fits}
use Rattle.instr_effects.proofs.Members.{either-elim, map-of, member-elim, member-none}
use Rattle.live_laws.proofs.Touch.Roles.{TakeAll, Takes, addr-takes, const-takes, met, reload-takes, spill-takes}
use Rattle.lowering_laws.proofs.Rolled.{bare-roles}

-- one register is named, or a definition and a use by an opcode without roles
pub data AreFew (t : Target) (i : Instr) : Type 0 where
  alone : (o : RegOp) → registers i.operands ≡ o ∷ [] → AreFew t i
  pair : (d s : RegOp) → registers i.operands ≡ d ∷ s ∷ [] → s.def ≡ false → roles_of t i ≡ [] → AreFew t i

-- an operand of a role that is no register
abbrev IsBeside : (Role → Bool) → Type 0
IsBeside test = (r : Role) (o : RegOp) → test r ≡ true → fits_role r (operands.Reg o) ≡ true → ⊥

beside-immediate : IsBeside is_immediate
beside-immediate roles.Imm o e h = cc
beside-immediate r o e h = cc

beside-object : IsBeside is_frame_or_symbol
beside-object roles.Frame o e h = cc
beside-object roles.Sym o e h = cc
beside-object r o e h = cc

beside-slot : IsBeside is_slot
beside-slot roles.Slot o e h = cc
beside-slot r o e h = cc

beside-lanes : IsBeside is_lanes
beside-lanes roles.Lanes o e h = cc
beside-lanes r o e h = cc

no-register : (test : Role → Bool) → IsBeside test → (o : Operand) → Takes test o → (os : List Operand) → registers (o ∷ os) ≡ registers os
no-register test n (operands.Reg o) z os = absurd (n z.0 o z.1 z.2)
no-register test n (operands.Imm x) z os = refl
no-register test n (operands.Block x) z os = refl
no-register test n (operands.Stack x) z os = refl
no-register test n (operands.FixedStack x) z os = refl
no-register test n (operands.Symbol x) z os = refl
no-register test n (operands.Index x) z os = refl
no-register test n (operands.Mask x) z os = refl

abbrev IsRegister : (Role → Bool) → Type 0
IsRegister test = (r : Role) (o : Operand) → test r ≡ true → fits_role r o ≡ true → (p : RegOp) × (o ≡ operands.Reg p)

register-defined : IsRegister is_definition_role
register-defined (roles.Def k) (operands.Reg p) e h = (p, refl)
register-defined (roles.Def k) o e h = absurd (cc)
register-defined (roles.Early k) (operands.Reg p) e h = (p, refl)
register-defined (roles.Early k) o e h = absurd (cc)
register-defined r o e h = absurd (cc)

register-used : IsRegister is_use_role
register-used (roles.Read k) (operands.Reg p) e h = (p, refl)
register-used (roles.Read k) o e h = absurd (cc)
register-used (roles.Tied k n) (operands.Reg p) e h = (p, refl)
register-used (roles.Tied k n) o e h = absurd (cc)
register-used r o e h = absurd (cc)

-- a register and one other operand
of-two : (t : Target) (i : Instr) (p q : Role → Bool) → IsRegister p → IsBeside q → (os : List Operand) → i.operands ≡ os → TakeAll (p ∷ q ∷ []) os → AreFew t i
of-two t i p q reg n (x ∷ y ∷ []) are z =
    let w = reg z.0.0 x z.0.1 z.0.2 in
    alone w.0 (ap registers are ∙ (ap (λ o. registers (o ∷ y ∷ [])) w.1 ∙ ap (λ os. w.0 ∷ os) (no-register q n y z.1.0 [])))
of-two t i p q reg n (x ∷ []) are z = absurd (z.1)
of-two t i p q reg n [] are z = absurd z
of-two t i p q reg n (x ∷ y ∷ u ∷ os) are z = absurd (z.1.1)

-- a register, a slot and its lanes
of-three : (t : Target) (i : Instr) (p : Role → Bool) → IsRegister p → (os : List Operand) → i.operands ≡ os → TakeAll (p ∷ is_slot ∷ is_lanes ∷ []) os → AreFew t i
of-three t i p reg (x ∷ y ∷ u ∷ []) are z =
    let w = reg z.0.0 x z.0.1 z.0.2 in
    alone w.0 (ap registers are ∙ (ap (λ o. registers (o ∷ y ∷ u ∷ [])) w.1 ∙ ap (λ os. w.0 ∷ os) (no-register is_slot beside-slot y z.1.0 (u ∷ []) ∙ no-register is_lanes beside-lanes u z.1.1.0 [])))
of-three t i p reg [] are z = absurd z
of-three t i p reg (x ∷ []) are z = absurd (z.1)
of-three t i p reg (x ∷ y ∷ []) are z = absurd (z.1.1)
of-three t i p reg (x ∷ y ∷ u ∷ v ∷ os) are z = absurd (z.1.1.1)

of-copy : (t : Target) (i : Instr) (os : List Operand) → i.operands ≡ os → roles_of t i ≡ [] → copy_fits os ≡ true → AreFew t i
of-copy t i (operands.Reg d ∷ operands.Reg s ∷ []) are bare e = pair d s (ap registers are) (go s.def s.implicit (second_of_both (is_definition d) (is_use s) e)) bare
  where
    go : (u v : Bool) → (not u && not v) ≡ true → u ≡ false
    go false v e = refl
    go true v e = absurd (cc)
of-copy t i os are bare e = absurd (cc)

of-undef : (t : Target) (i : Instr) (os : List Operand) → i.operands ≡ os → implicit_def_fits os ≡ true → AreFew t i
of-undef t i (operands.Reg d ∷ []) are e = alone d (ap registers are)
of-undef t i os are e = absurd (cc)

pub few : (t : Target) (f : Function) (i : Instr) (e : Effect) → effect_of t i ≡ Some e → is_silent e ≡ true → is_lowered_away e ≡ false → V1 t f i ≡ true → AreFew t i
few t f i effects.Copy known s l one = of-copy t i i.operands refl (bare-roles t i effects.Copy known refl) (met t f i effects.Copy known one).3
few t f i effects.ImplicitDef known s l one = of-undef t i i.operands refl (met t f i effects.ImplicitDef known one).3
few t f i effects.Const known s l one = of-two t i is_definition_role is_immediate register-defined beside-immediate i.operands refl (const-takes t f i one known)
few t f i effects.Addr known s l one = of-two t i is_definition_role is_frame_or_symbol register-defined beside-object i.operands refl (addr-takes t f i one known)
few t f i effects.Spill known s l one = of-three t i is_use_role register-used i.operands refl (spill-takes t f i one known)
few t f i effects.Reload known s l one = of-three t i is_definition_role register-defined i.operands refl (reload-takes t f i one known)
few t f i effects.Phi known s l one = absurd (cc)
few t f i effects.RegSequence known s l one = absurd (cc)
few t f i effects.InsertSubreg known s l one = absurd (cc)
few t f i e known s l one = absurd (cc)

-- at most one of them is a definition
pub one-definition : (t : Target) (i : Instr) → AreFew t i → ◌≡◌ {A = List RegOp} (filter (λ (o : RegOp). o.def) (registers i.operands)) [] ⊎ ((d : RegOp) × (filter (λ (o : RegOp). o.def) (registers i.operands) ≡ d ∷ []))
one-definition t i (alone o are) = go o.def refl
  where
    go : (u : Bool) → o.def ≡ u → ◌≡◌ {A = List RegOp} (filter (λ (o : RegOp). o.def) (registers i.operands)) [] ⊎ ((d : RegOp) × (filter (λ (o : RegOp). o.def) (registers i.operands) ≡ d ∷ []))
    go true e = inr (o, ap (filter (λ (o : RegOp). o.def)) are ∙ ap (λ u. cond u (o ∷ []) []) e)
    go false e = inl (ap (filter (λ (o : RegOp). o.def)) are ∙ ap (λ u. cond u (o ∷ []) []) e)
one-definition t i (pair d s are reads bare) = go d.def refl
  where
    go : (u : Bool) → d.def ≡ u → ◌≡◌ {A = List RegOp} (filter (λ (o : RegOp). o.def) (registers i.operands)) [] ⊎ ((d : RegOp) × (filter (λ (o : RegOp). o.def) (registers i.operands) ≡ d ∷ []))
    go true e = inr (d, ap (filter (λ (o : RegOp). o.def)) are ∙ (λ k. cond (e k) (d ∷ cond (reads k) (s ∷ []) []) (cond s.def (s ∷ []) [])))
    go false e = inl (ap (filter (λ (o : RegOp). o.def)) are ∙ (λ k. cond (e k) (d ∷ cond s.def (s ∷ []) []) (cond (reads k) (s ∷ []) [])))

-- implicit roles aren't early

takes-early : (rs : List Role) (o : RegOp) → passes is_early (find (takes_role o) rs) ≡ false
takes-early [] o = refl
takes-early (q ∷ rs) o = go (takes_role o q) refl (takes-early rs o)
  where
    not-early : (q : Role) → takes_role o q ≡ true → is_early q ≡ false
    not-early (roles.Early k) e = absurd (cc)
    not-early q e = refl

    go : (u : Bool) → takes_role o q ≡ u → passes is_early (find (takes_role o) rs) ≡ false → passes is_early (cond u (Some q) (find (takes_role o) rs)) ≡ false
    go true e h = not-early q e
    go false e h = h

-- what takes an early role is among the explicit operands
pub early-explicit : (t : Target) (i : Instr) (b : Bound) → Member b (bound t i) → passes is_early b.0 ≡ true → Member b (explicit_bound (explicit_roles (roles_of t i)) (explicit_operands i.operands))
early-explicit t i b m e =
    let rs = implicit_roles (roles_of t i) in
    either-elim b (explicit_bound (explicit_roles (roles_of t i)) (explicit_operands i.operands)) (map (implicit_bound rs) (implicit_registers i.operands))
    (λ k. k)
    (λ k. absurd (let y = map-of (implicit_bound rs) b (implicit_registers i.operands) k in let z : passes is_early b.0 ≡ false = ap (λ (x : Bound). passes is_early x.0) y.2 ∙ takes-early rs y.0 in cc)) m

unbound : (os : List Operand) (b : Bound) → Member b (explicit_bound [] os) → b.0 ≡ None
unbound [] b m = absurd (member-none b m)
unbound (o ∷ os) b m = member-elim b (None, o) (explicit_bound [] os) (λ e. ap (λ (x : Bound). x.0) e) (λ k. unbound os b k) m

-- an opcode without roles has no early one
pub none-early : (t : Target) (i : Instr) → roles_of t i ≡ [] → (b : Bound) → Member b (bound t i) → passes is_early b.0 ≡ true → ⊥
none-early t i bare b m e =
    let k = early-explicit t i b m e in
    let z = unbound (explicit_operands i.operands) b (subst (λ rs. Member b (explicit_bound (explicit_roles rs) (explicit_operands i.operands))) bare k) in
    let w : true ≡ false = sym e ∙ ap (passes is_early) z in
    cc

-- beside an early definition a silent instruction names no use
pub no-use-beside : (t : Target) (i : Instr) → AreFew t i → (b : Bound) (d u : RegOp) → Member b (bound t i) → passes is_early b.0 ≡ true → Member d (registers i.operands) → d.def ≡ true → Member u (registers i.operands) → u.def ≡ false → ⊥
no-use-beside t i (alone o are) b d u m e md dd mu uu =
    let same : (x : RegOp) → Member x (registers i.operands) → x ≡ o = λ x k. member-elim x o [] (λ q. q) (λ j. absurd (member-none x j)) (subst (Member x) are k) in
    let z : true ≡ false = sym dd ∙ (ap (λ (x : RegOp). x.def) (same d md) ∙ (ap (λ (x : RegOp). x.def) (sym (same u mu)) ∙ uu)) in
    cc
no-use-beside t i (pair x s are reads bare) b d u m e md dd mu uu = none-early t i bare b m e
