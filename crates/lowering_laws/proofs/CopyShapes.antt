-- Rules 1, 2 and 12 of a COPY and of an IMPLICIT_DEF.
use Rattle.std.proofs.Common.{◌≡◌, ◌∷◌, ◌++◌, ◌∙◌, ◌&&◌, ◌||◌, not, Bool, true, false, cond, List, Some, None, map, filter, length, refl, sym, ap, subst, []}
use Rattle.std.specs.Prelude.{nat_le}
use Rattle.std.specs.List.{list_all}
use Rattle.target_base.specs.declared.types.Effect.{Effect}
use Rattle.target_base.specs.declared.types.Effect.TheVariants as effects
use Rattle.target_base.specs.declared.types.Target.{Target}
use Rattle.target_base.proofs.Tests.{first_of_both, second_of_both}
use Rattle.mir_func.specs.declared.func.RegOp.{RegOp}
use Rattle.mir_func.specs.declared.func.Operand.TheVariants as operands
use Rattle.mir_func.specs.declared.func.Instr.{Instr}
use Rattle.mir_func.specs.Value.{Function}
use Rattle.mir_func.specs.Binding.{Bound, bound, does, explicit_bound, explicit_operands, explicit_roles, implicit_bound, implicit_registers, implicit_roles, is_virtual, numbered, passes, registers, roles_of, same_loc}
use Rattle.mir_meaning.specs.declared.Form.TheVariants as forms
use Rattle.mir_meaning.specs.Rules.{V1, V2, V12, copy_fits, defined_lanes, early_fits, has_lanes, implicit_def_fits, in_operand_class, is_opaque, is_taken_reserved, namings, no_two_share, operands_fit, undef_fits, undef_uses_fit, widths_fit}
use Rattle.lowering_laws.proofs.CopyRules.{opcode-of, or-true}
use Rattle.lowering_laws.proofs.EachBehind.{IsCopying, IsUndefining}
use Rattle.lowering_laws.proofs.Rolled.{bare-roles}

not-true : (b : Bool) → not b ≡ true → b ≡ false
not-true true e = absurd (cc)
not-true false e = refl

module _ (t : Target) (g : Function) where
  -- an operand that takes no role
  abbrev free : RegOp → Bound
  free o = (None, operands.Reg o)

  in-class : (e : Effect) (o : RegOp) → in_operand_class t g e (free o) ≡ true
  in-class e o = or-true (not (has_lanes t g o) || is_taken_reserved t e None o.loc)

  module _ (x : Instr) (z : IsUndefining t x) where
    open z use {d, effect, are, is, whole}

    def : d.def ≡ true
    def = first_of_both d.def (not d.implicit) is

    explicit : d.implicit ≡ false
    explicit = not-true d.implicit (second_of_both d.def (not d.implicit) is)

    bare : roles_of t x ≡ []
    bare = bare-roles t x effects.ImplicitDef effect refl

    bound-is : bound t x ≡ free d ∷ []
    bound-is =
        (λ k. explicit_bound (explicit_roles (bare k)) (explicit_operands (are k)) ++ map (implicit_bound (implicit_roles (bare k))) (implicit_registers (are k)))
        ∙ (λ k. explicit_bound [] (cond (not (explicit k)) (operands.Reg d ∷ []) []) ++ map (implicit_bound []) (cond (explicit k) (d ∷ []) []))

    pub undefining-one : V1 t g x ≡ true
    unfolding V1
    undefining-one =
        let y = opcode-of t x effects.ImplicitDef effect in
        subst (λ q. elim q as (λ q. Bool) [ None ↦ true | Some w ↦ operands_fit t g w x.operands w.effect ] ≡ true) (sym y.1)
        (ap (operands_fit t g y.0 x.operands) y.2 ∙ (ap implicit_def_fits are ∙ is))

    pub undefining-two : V2 t g x ≡ true
    unfolding V2
    undefining-two =
        let y = opcode-of t x effects.ImplicitDef effect in
        subst (λ q. elim q as (λ q. Bool) [ None ↦ true | Some w ↦ list_all (in_operand_class t g w.effect) (bound t x) && widths_fit t g w.effect x.operands ] ≡ true) (sym y.1)
        ((λ k. list_all (in_operand_class t g (y.2 k)) (bound-is k) && widths_fit t g (y.2 k) x.operands)
        ∙ (λ k. (in-class effects.ImplicitDef d k && true) && true))

    opaque : does is_opaque t x ≡ false
    opaque = ap (passes is_opaque) effect

    pub undefining-twelve : V12 t forms.Source g x ≡ true
    unfolding V12
    undefining-twelve =
        (λ k. list_all (undef_fits forms.Source (registers (are k))) (filter (λ (o : RegOp). o.def) (registers (are k))) && no_two_share (map (defined_lanes t g (opaque k)) (filter (λ (o : RegOp). o.def) (registers (are k)))) && list_all (early_fits t g (bound-is k)) (numbered 0 (bound-is k)) && undef_uses_fit (opaque k) (bound-is k))
        ∙ ((λ k. list_all (undef_fits forms.Source (d ∷ [])) (cond (def k) (d ∷ []) []) && no_two_share (map (defined_lanes t g false) (cond (def k) (d ∷ []) [])) && list_all (early_fits t g (free d ∷ [])) (numbered 0 (free d ∷ [])) && undef_uses_fit false (free d ∷ []))
        ∙ (λ k. ((not (whole k) || (is_virtual d.loc && nat_le (length (filter (λ (o : RegOp). same_loc o.loc d.loc) (namings (d ∷ [])))) 1)) && true) && no_two_share (defined_lanes t g false d ∷ []) && list_all (early_fits t g (free d ∷ [])) (numbered 0 (free d ∷ [])) && undef_uses_fit false (free d ∷ [])))

  module _ (x : Instr) (z : IsCopying t g x) where
    open z use {d, s, effect, are, is, whole, reads, wide, home, source_home}

    defines : d.def ≡ true
    defines = first_of_both d.def (not d.implicit) is

    plain : d.implicit ≡ false
    plain = not-true d.implicit (second_of_both d.def (not d.implicit) is)

    not-def : s.def ≡ false
    not-def = not-true s.def (first_of_both (not s.def) (not s.implicit) reads)

    plain-use : s.implicit ≡ false
    plain-use = not-true s.implicit (second_of_both (not s.def) (not s.implicit) reads)

    none : roles_of t x ≡ []
    none = bare-roles t x effects.Copy effect refl

    bound-both : bound t x ≡ free d ∷ free s ∷ []
    bound-both =
        (λ k. explicit_bound (explicit_roles (none k)) (explicit_operands (are k)) ++ map (implicit_bound (implicit_roles (none k))) (implicit_registers (are k)))
        ∙ (λ k. explicit_bound [] (cond (not (plain k)) (operands.Reg d ∷ cond (not (plain-use k)) (operands.Reg s ∷ []) []) (cond (not (plain-use k)) (operands.Reg s ∷ []) []))
        ++ map (implicit_bound []) (cond (plain k) (d ∷ cond (plain-use k) (s ∷ []) []) (cond (plain-use k) (s ∷ []) [])))

    pub copying-one : V1 t g x ≡ true
    unfolding V1
    copying-one =
        let y = opcode-of t x effects.Copy effect in
        subst (λ q. elim q as (λ q. Bool) [ None ↦ true | Some w ↦ operands_fit t g w x.operands w.effect ] ≡ true) (sym y.1)
        (ap (operands_fit t g y.0 x.operands) y.2 ∙ (ap copy_fits are ∙ (λ k. is k && reads k)))

    pub copying-two : V2 t g x ≡ true
    unfolding V2
    copying-two =
        let y = opcode-of t x effects.Copy effect in
        subst (λ q. elim q as (λ q. Bool) [ None ↦ true | Some w ↦ list_all (in_operand_class t g w.effect) (bound t x) && widths_fit t g w.effect x.operands ] ≡ true) (sym y.1)
        ((λ k. list_all (in_operand_class t g (y.2 k)) (bound-both k) && widths_fit t g (y.2 k) (are k))
        ∙ (λ k. (in-class effects.Copy d k && (in-class effects.Copy s k && true)) && (wide k && home k && source_home k)))

    opaque-none : does is_opaque t x ≡ false
    opaque-none = ap (passes is_opaque) effect

    abbrev cs : List Bound
    cs = free d ∷ free s ∷ []

    pub copying-twelve : V12 t forms.Source g x ≡ true
    unfolding V12
    copying-twelve =
        (λ k. list_all (undef_fits forms.Source (registers (are k))) (filter (λ (o : RegOp). o.def) (registers (are k))) && no_two_share (map (defined_lanes t g (opaque-none k)) (filter (λ (o : RegOp). o.def) (registers (are k)))) && list_all (early_fits t g (bound-both k)) (numbered 0 (bound-both k)) && undef_uses_fit (opaque-none k) (bound-both k))
        ∙ ((λ k. list_all (undef_fits forms.Source (d ∷ s ∷ [])) (defs k) && no_two_share (map (defined_lanes t g false) (defs k)) && list_all (early_fits t g cs) (numbered 0 cs) && undef_uses_fit false cs)
        ∙ (λ k. ((not (whole k) || (is_virtual d.loc && nat_le (length (filter (λ (o : RegOp). same_loc o.loc d.loc) (namings (d ∷ s ∷ [])))) 1)) && true) && no_two_share (defined_lanes t g false d ∷ []) && list_all (early_fits t g cs) (numbered 0 cs) && undef_uses_fit false cs))
      where
        defs : filter (λ (o : RegOp). o.def) (d ∷ s ∷ []) ≡ d ∷ []
        defs = λ k. cond (defines k) (d ∷ cond (not-def k) (s ∷ []) []) (cond (not-def k) (s ∷ []) [])
