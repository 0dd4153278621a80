-- In a function in lowered form whose `undef` uses are physical registers or tied, a range that an instruction names counts there.
use Rattle.std.proofs.Common.{◌≡◌, ◌∙◌, ◌&&◌, ◌||◌, not, ℕ, Bool, true, false, List, [], ◌∷◌, Option, Some, None, map, refl, sym, ap, subst}
use Rattle.std.specs.Prelude.{is_none, option_and_then}
use Rattle.std.specs.List.{list_all, list_any}
use Rattle.target_base.specs.declared.types.Effect.{Effect}
use Rattle.target_base.specs.declared.types.Effect.TheVariants as effects
use Rattle.target_base.specs.declared.types.Role.{Role}
use Rattle.target_base.specs.declared.types.Role.TheVariants as roles
use Rattle.target_base.specs.declared.types.Target.{Target}
use Rattle.target_base.specs.Roles.{is_definition as is_definition_role, is_implicit}
use Rattle.target_base.specs.Rules.{is_copy}
use Rattle.target_base.proofs.Tests.{first_of_both, second_of_both}
use Rattle.meaning.specs.Live.{Among as Member}
use Rattle.mir_func.specs.declared.func.Loc.{Loc}
use Rattle.mir_func.specs.declared.func.Loc.TheVariants.{Fixed, Virtual}
use Rattle.mir_func.specs.declared.func.RegOp.{RegOp}
use Rattle.mir_func.specs.declared.func.Operand.{Operand}
use Rattle.mir_func.specs.declared.func.Operand.TheVariants as operands
use Rattle.mir_func.specs.declared.func.Instr.{Instr}
use Rattle.mir_func.specs.Value.{Function}
use Rattle.mir_func.specs.Binding.{as_register, bound, does, effect_of, explicit_bound, explicit_operands, explicit_roles, implicit_bound, implicit_registers, implicit_roles, is_implicit_operand, is_lowered_away, is_virtual, passes, register_at, registers, roles_of, same_index, same_loc, takes_many, tied_number, tied_pair, tied_pairs}
use Rattle.mir_meaning.specs.Points.{counts, is_range}
use Rattle.mir_meaning.specs.Rules.{explicit_fit, fits_at, implicit_def_fits, implicit_last, is_free_undef, is_opaque}
use Rattle.two_address.specs.Classes.{seated as with_roles}
use Rattle.instr_effects.proofs.Members.{filter-in, filter-of, left-in, member-elim, member-none}
use Rattle.live_laws.specs.Effects.Shaped.{AreClasses, IsShaped}
use Rattle.live_laws.proofs.Effects.Lists.{all-of, any-in}
use Rattle.live_laws.proofs.Touch.Cells.{any-of}
use Rattle.live_laws.proofs.Touch.Roles.{has_roles, met}
use Rattle.lowering_laws.specs.Form.{is_lowered, is_undef_definition, is_undef_use, shares_register}
use Rattle.lowering_laws.specs.Named.{TouchesItsRanges}
use Rattle.lowering_laws.proofs.FormedTies.{seat-all}
use Rattle.lowering_laws.proofs.NamedTies.{by-operand, plain-counts}
use Rattle.lowering_laws.proofs.Rolled.{Leads, defined-by, definition-explicit, explicit-front, first, fit-operands, fit-roles, front-role, later, role-leads, tied-role}
use Rattle.lowering_laws.proofs.Seated.{bound-role, pair-of, pair_with, register-in, register-of, register-there, role-tied, some-role, told-in, told-of}
use Rattle.spill_laws.proofs.Seated.{not-implicit}
use Rattle.spill_laws.proofs.TinyApart.{none-before}
use Rattle.spill_laws.proofs.TinyForm.{range-same}

not-true : (b : Bool) → not b ≡ true → b ≡ false
not-true true e = absurd (cc)
not-true false e = refl

pub range-virtual : (w : ℕ) (l : Loc) → is_range w l ≡ true → (v : ℕ) × (l ≡ Virtual v)
range-virtual w (Virtual v) e = (v, refl)
range-virtual w (Fixed r) e = absurd (cc)

not-either : (b : Bool) → (false || (b && false)) ≡ true → ⊥
not-either true e = cc
not-either false e = cc

low-shares : (t : Target) (i : Instr) → is_lowered t i ≡ true → list_all shares_register (tied_pairs t i) ≡ true
low-shares t i low = second_of_both _ _ low

pub low-copies : (t : Target) (i : Instr) → is_lowered t i ≡ true → (does is_copy t i && list_any is_undef_use (registers i.operands)) ≡ false
low-copies t i low = not-true _ (second_of_both _ _ (first_of_both _ _ low))

-- the definition to which a role ties is there

definition-register : (t : Target) (e : Effect) (r : Role) (x : Operand) → is_definition_role r ≡ true → fits_at t e r x ≡ true → (d : RegOp) × (x ≡ operands.Reg d)
definition-register t e r (operands.Reg d) g h = (d, refl)
definition-register t e (roles.Def k) x g h = absurd (not-either (is_opaque e) h)
definition-register t e (roles.Early k) x g h = absurd (not-either (is_opaque e) h)
definition-register t e r x g h = absurd (cc)

pub definition-there : (t : Target) (e : Effect) {n : ℕ} {rs : List Role} {r : Role} → Leads n rs r → (os : List Operand) → implicit_last os ≡ true → explicit_fit t e (explicit_roles rs) (explicit_operands os) ≡ true → (d : RegOp) × (register_at os n ≡ Some d)
definition-there t e (first {r = r} {rs = rs} g) [] last fits = absurd (let a = first_of_both (takes_many r) (list_all takes_many (explicit_roles rs)) (subst (λ qs. explicit_fit t e qs [] ≡ true) (front-role r rs g) fits) in let b = (definition-explicit r g).1 in cc)
definition-there t e (first {r = r} {rs = rs} g) (x ∷ os) last fits =
    let z = explicit-front t e r rs x os g last fits in
    let y = definition-register t e r x g z.2 in
    (y.0, ap as_register y.1)
definition-there t e (later {q = q} {r = r} {rs = rs} g l) [] last fits = absurd (let a = first_of_both (takes_many q) (list_all takes_many (explicit_roles rs)) (subst (λ qs. explicit_fit t e qs [] ≡ true) (front-role q rs g) fits) in let b = (definition-explicit q g).1 in cc)
definition-there t e (later {q = q} {r = r} {rs = rs} g l) (x ∷ os) last fits =
    let z = explicit-front t e q rs x os g last fits in
    definition-there t e l os z.1 z.3

-- each `undef` use of the instruction that isn't tied is a physical register
abbrev pub UndefsFixed : Target → Instr → Type 0
UndefsFixed t i = (r : Option Role) (o : RegOp) → Member (r, operands.Reg o) (bound t i) → is_free_undef (r, operands.Reg o) ≡ true → is_virtual o.loc ≡ false

module _ (t : Target) (f : Function) (classes : AreClasses t f) (i : Instr) (shaped : IsShaped t f i) (opcode : does (λ e. not (is_lowered_away e)) t i ≡ true) (low : is_lowered t i ≡ true) (fixed : UndefsFixed t i) where
  abbrev os : List Operand
  os = i.operands

  abbrev es : List Role
  es = explicit_roles (roles_of t i)

  abbrev Counted : ℕ → Type 0
  Counted w = list_any (λ (x : RegOp). is_range w x.loc && counts x) (registers i.operands) ≡ true

  register-operand : (o : RegOp) → Member o (registers os) → Member (operands.Reg o) os
  register-operand o m = let w = told-of as_register o os m in subst (λ x. Member x os) (register-of w.0 o w.2) w.1

  module _ (w : ℕ) (o : RegOp) (m : Member o (registers os)) (named : is_range w o.loc ≡ true) (used : o.def ≡ false) (undef : o.undef ≡ true) where
    -- an `undef` use of a range in an instruction with roles: the definition to which it is tied counts
    rolled-counts : (e : Effect) → effect_of t i ≡ Some e → has_roles e ≡ true → Counted w
    rolled-counts e known rolled =
        let rule = shaped.operands in
        let v = range-virtual w o.loc named in
        let plain = not-implicit t f classes i shaped e known rolled o v.0 v.1 m in
        let there = filter-in (λ x. not (is_implicit_operand x)) (operands.Reg o) os (register-operand o m) (λ k. not (plain k)) in
        let r = some-role es (explicit_operands os) (operands.Reg o) there in
        let bound-in = left-in (r.0, operands.Reg o) (explicit_bound es (explicit_operands os)) (map (implicit_bound (implicit_roles (roles_of t i))) (implicit_registers os)) r.1 in
        go r.0 (option_and_then tied_number r.0) refl bound-in (seat-all es os r.0 (operands.Reg o) (fit-operands t f i e known rolled rule).0 r.1)
      where
        tied : (q : Option Role) (n : ℕ) → option_and_then tied_number q ≡ Some n → Member (q, operands.Reg o) (bound t i) → Member (q, operands.Reg o) (with_roles t i) → Counted w
        tied q n g a b =
            let fits = fit-operands t f i e known rolled shaped.operands in
            let u = role-tied q n g in
            let v = tied-role u.0 n (subst (λ y. option_and_then tied_number y ≡ Some n) u.1 g) in
            let own-role = bound-role es os u.0 (operands.Reg o) (subst (λ y. Member (y, operands.Reg o) (with_roles t i)) u.1 b) in
            let leads = role-leads t e (roles_of t i) (fit-roles t f i e known rolled shaped.operands) rolled v.0 n (subst (λ y. Member y (roles_of t i)) v.1 (filter-of (λ (y : Role). not (is_implicit y)) u.0 (roles_of t i) own-role).0) in
            let d = definition-there t e leads.1 os fits.0 fits.1 in
            let pair = pair_with n d.0 o in
            let is-pair = pair-of os q o n d.0 g d.1 in
            let shares = all-of shares_register pair (tied_pairs t i) (told-in (tied_pair os) pair (q, operands.Reg o) (bound t i) a is-pair) (low-shares t i low) in
            let range = range-same w d.0.loc o.loc (first_of_both (same_loc d.0.loc o.loc) (same_index d.0.index o.index) shares) in
            let defines = (defined-by t f i e known rolled shaped.operands pair (told-in (tied_pair os) pair (q, operands.Reg o) (with_roles t i) b is-pair)).is in
            by-operand i w d.0 (register-in d.0 os (register-there os n d.0 d.1)) (range ∙ named) (λ k. first_of_both d.0.def (not d.0.implicit) defines k || not d.0.undef)

        go : (q : Option Role) (n : Option ℕ) → option_and_then tied_number q ≡ n → Member (q, operands.Reg o) (bound t i) → Member (q, operands.Reg o) (with_roles t i) → Counted w
        go q (Some n) g a b = tied q n g a b
        go q None g a b =
            let free : is_free_undef (q, operands.Reg o) ≡ true = λ k. not (used k) && undef k && is_none (g k) in
            let v = range-virtual w o.loc named in
            absurd (let x = fixed q o a free in let y : is_virtual o.loc ≡ true = ap is_virtual v.1 in cc)

    -- a copy has none, and an IMPLICIT_DEF no use
    none-copied : effect_of t i ≡ Some effects.Copy → ⊥
    none-copied known =
        let uses : (does is_copy t i && list_any is_undef_use (registers os)) ≡ false = low-copies t i low in
        let a = any-in is_undef_use o (registers os) m (λ k. not (used k) && undef k) in
        let b : does is_copy t i ≡ true = ap (passes is_copy) known in
        let c : true ≡ false = (λ k. sym b k && sym a k) ∙ uses in
        cc

    none-undefined : (os : List Operand) → implicit_def_fits os ≡ true → Member o (registers os) → ⊥
    none-undefined (operands.Reg d ∷ []) h m = member-elim o d [] (λ e. let a = first_of_both d.def (not d.implicit) h in let b : o.def ≡ true = ap (λ (x : RegOp). x.def) e ∙ a in cc) (λ k. member-none o k) m
    none-undefined os h m = cc

    undef-counts : Counted w
    undef-counts = go (effect_of t i) refl opcode
      where
        go : (q : Option Effect) → effect_of t i ≡ q → passes (λ e. not (is_lowered_away e)) q ≡ true → Counted w
        go None e h = absurd (cc)
        go (Some effects.Copy) e h = absurd (none-copied e)
        go (Some effects.ImplicitDef) e h = absurd (none-undefined os (met t f i effects.ImplicitDef e shaped.operands).3 m)
        go (Some effects.Phi) e h = absurd (cc)
        go (Some effects.RegSequence) e h = absurd (cc)
        go (Some effects.InsertSubreg) e h = absurd (cc)
        go (Some x) e h = rolled-counts x e refl

  pub touched : TouchesItsRanges i
  touched w h = let a = any-of (λ (o : RegOp). is_range w o.loc) (registers os) h in go a.0 a.1 a.2 a.0.undef refl a.0.def refl
    where
      none-of : (o : RegOp) → Member o (registers os) → is_undef_definition o ≡ true → ⊥
      none-of o m e = let a = any-in is_undef_definition o (registers os) m e in let b = none-before t i low in cc

      go : (o : RegOp) → Member o (registers os) → is_range w o.loc ≡ true → (u : Bool) → o.undef ≡ u → (d : Bool) → o.def ≡ d → Counted w
      go o m r false u d g = by-operand i w o m r (plain-counts o u)
      go o m r true u true g = absurd (none-of o m (λ k. g k && u k))
      go o m r true u false g = undef-counts w o m r g u
