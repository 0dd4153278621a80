-- A COPY of one virtual register to another keeps the rules on instructions, and so does an IMPLICIT_DEF of one.
use Rattle.std.proofs.Common.{◌≡◌, ◌∷◌, ◌++◌, ◌∙◌, ◌&&◌, ◌||◌, not, Bool, true, false, cond, List, Option, Some, None, map, filter, length, refl, sym, ap, subst, []}
use Rattle.std.specs.Prelude.{filter_map, is_none, nat_le, option_map}
use Rattle.std.specs.List.{list_all}
use Rattle.target_base.specs.declared.types.Effect.{Effect}
use Rattle.target_base.specs.declared.types.Effect.TheVariants as effects
use Rattle.target_base.specs.declared.types.OpcodeDesc.{OpcodeDesc}
use Rattle.target_base.specs.declared.types.Target.{Target}
use Rattle.mir_func.specs.declared.func.Loc.{Loc}
use Rattle.mir_func.specs.declared.func.Loc.TheVariants.{Virtual}
use Rattle.mir_func.specs.declared.func.RegOp.{RegOp}
use Rattle.mir_func.specs.declared.func.Operand.TheVariants as operands
use Rattle.mir_func.specs.declared.func.Op.TheVariants as ops
use Rattle.mir_func.specs.declared.func.Instr.{Instr}
use Rattle.mir_func.specs.Value.{Function}
use Rattle.mir_func.specs.Binding.{Bound, TiedPair, bound, does, effect_of, explicit_bound, explicit_roles, implicit_bound, implicit_roles, is_virtual, known_opcode, numbered, passes, puts_together, registers, roles_of, same_loc, tied_pair, ties_to}
use Rattle.mir_meaning.specs.declared.Form.TheVariants as forms
use Rattle.mir_meaning.specs.Rules.{V1, V2, V3, V4, V11, V12, V15, defined_lanes, early_fits, flags_fit, has_class, has_home, has_lanes, in_operand_class, index_fits, is_opaque, is_taken_reserved, no_two_share, operands_fit, same_widths, spills_or_reloads, subregs_fit, tie_fits, undef_fits, undef_uses_fit, widths_fit}
use Rattle.phi_elim.specs.Moves.{copy_op, implicit_def_op}
use Rattle.lowering_laws.proofs.Placed.{copy-effect, undef-effect}
use Rattle.lowering_laws.proofs.Rolled.{bare-roles}
use Rattle.lowering_laws.proofs.Ruled.{InstrRules}

-- the opcode of an effect
pub opcode-of : (t : Target) (i : Instr) (e : Effect) → effect_of t i ≡ Some e → (d : OpcodeDesc) × (known_opcode t i.op ≡ Some d) × (d.effect ≡ e)
opcode-of t i e h = go (known_opcode t i.op) refl h
  where
    same : (x y : Effect) → Some x ≡ Some y → x ≡ y
    same x y q = cc

    go : (q : Option OpcodeDesc) → known_opcode t i.op ≡ q → option_map (λ (d : OpcodeDesc). d.effect) q ≡ Some e → (d : OpcodeDesc) × (known_opcode t i.op ≡ Some d) × (d.effect ≡ e)
    go None g w = absurd (cc)
    go (Some d) g w = (d, g, same d.effect e w)

pub or-true : (b : Bool) → (b || true) ≡ true
or-true true = refl
or-true false = refl

-- an explicit operand that is a virtual register with a class, which its index fits, and has no flag of its own
pub record IsPlain (t : Target) (f : Function) (o : RegOp) : Type 0 where
  pub virtual : is_virtual o.loc ≡ true
  pub class : has_class f o.loc ≡ true
  pub index : index_fits t f o.loc o.index ≡ true
  pub explicit : o.implicit ≡ false
  pub early : o.early ≡ false
  pub tie : o.tie ≡ None

module _ (t : Target) (f : Function) where
  -- an operand that takes no role
  abbrev free : RegOp → Bound
  free o = (None, operands.Reg o)

  takes : (o : RegOp) → IsPlain t f o → flags_fit (free o) ≡ true
  takes o p = λ k. (not (p.early k) || false) && (is_none (p.tie k) || passes (λ n. passes (ties_to n) None) (p.tie k))

  home : (l m : Loc) → is_virtual l ≡ true → is_virtual m ≡ true → has_home t l m ≡ true
  home (Virtual v) (Virtual w) h g = refl
  home l m h g = absurd (cc)

  module _ (i : Instr) (d s : RegOp) (pd : IsPlain t f d) (ps : IsPlain t f s) (defines : d.def ≡ true) (reads : s.def ≡ false) (wide : same_widths t f d s ≡ true) (apart : same_loc s.loc d.loc ≡ false) where
    abbrev x : Instr
    x = record i { op = ops.Known copy_op; operands = operands.Reg d ∷ operands.Reg s ∷ [] }

    abbrev bs : List Bound
    bs = free d ∷ free s ∷ []

    copies : effect_of t x ≡ Some effects.Copy
    copies = copy-effect t x refl

    bare : roles_of t x ≡ []
    bare = bare-roles t x effects.Copy copies refl

    bound-is : bound t x ≡ bs
    bound-is =
        λ k. explicit_bound (explicit_roles (bare k)) (cond (not (pd.explicit k)) (operands.Reg d ∷ cond (not (ps.explicit k)) (operands.Reg s ∷ []) []) (cond (not (ps.explicit k)) (operands.Reg s ∷ []) []))
        ++ map (implicit_bound (implicit_roles (bare k))) (cond (pd.explicit k) (d ∷ cond (ps.explicit k) (s ∷ []) []) (cond (ps.explicit k) (s ∷ []) []))

    one : V1 t f x ≡ true
    unfolding V1
    one =
        let y = opcode-of t x effects.Copy copies in
        subst (λ q. elim q as (λ q. Bool) [ None ↦ true | Some z ↦ operands_fit t f z x.operands z.effect ] ≡ true) (sym y.1)
        (ap (operands_fit t f y.0 x.operands) y.2 ∙ (λ k. (defines k && not (pd.explicit k)) && (not (reads k) && not (ps.explicit k))))

    in-class : (o : RegOp) → in_operand_class t f effects.Copy (free o) ≡ true
    in-class o = or-true (not (has_lanes t f o) || is_taken_reserved t effects.Copy None o.loc)

    two : V2 t f x ≡ true
    unfolding V2
    two =
        let y = opcode-of t x effects.Copy copies in
        subst (λ q. elim q as (λ q. Bool) [ None ↦ true | Some z ↦ list_all (in_operand_class t f z.effect) (bound t x) && widths_fit t f z.effect x.operands ] ≡ true) (sym y.1)
        ((λ k. list_all (in_operand_class t f (y.2 k)) (bound-is k) && widths_fit t f (y.2 k) x.operands)
        ∙ (λ k. (in-class d k && (in-class s k && true)) && (wide k && home d.loc s.loc pd.virtual ps.virtual k && home s.loc d.loc ps.virtual pd.virtual k)))

    three : V3 f x ≡ true
    unfolding V3
    three = λ k. pd.class k && (ps.class k && true)

    four : V4 t f x ≡ true
    unfolding V4
    four = λ k. (pd.index k && (ps.index k && true)) && (not (ap (passes puts_together) copies k) || subregs_fit t f x.operands)

    eleven : V11 t forms.Source f x ≡ true
    unfolding V11
    eleven =
        (λ k. list_all flags_fit (bound-is k) && list_all (λ (p : TiedPair). tie_fits t forms.Source f p.definition p.tied_use) (filter_map (tied_pair x.operands) (bound-is k)))
        ∙ (λ k. (takes d pd k && (takes s ps k && true)) && true)

    opaque : does is_opaque t x ≡ false
    opaque = ap (passes is_opaque) copies

    defs : filter (λ (o : RegOp). o.def) (registers x.operands) ≡ d ∷ []
    defs = λ k. cond (defines k) (d ∷ cond (reads k) (s ∷ []) []) (cond (reads k) (s ∷ []) [])

    abbrev named_so : RegOp → Bool
    named_so o = same_loc o.loc d.loc

    few : nat_le (length (filter named_so (filter (λ (o : RegOp). o.def || not o.undef) (d ∷ s ∷ [])))) 1 ≡ true
    few = go (d.def || not d.undef) (s.def || not s.undef)
      where
        both : (y : Bool) → nat_le (length (cond y (d ∷ cond (named_so s) (s ∷ []) []) (cond (named_so s) (s ∷ []) []))) 1 ≡ true
        both true = λ k. nat_le (length (d ∷ cond (apart k) (s ∷ []) [])) 1
        both false = λ k. nat_le (length (cond (apart k) (s ∷ []) [])) 1

        first : (y : Bool) → nat_le (length (cond y (d ∷ []) [])) 1 ≡ true
        first true = refl
        first false = refl

        go : (a b : Bool) → nat_le (length (filter named_so (cond a (d ∷ cond b (s ∷ []) []) (cond b (s ∷ []) [])))) 1 ≡ true
        go true true = both (named_so d)
        go true false = first (named_so d)
        go false true = λ k. nat_le (length (cond (apart k) (s ∷ []) [])) 1
        go false false = refl

    defined : undef_fits forms.Source (d ∷ s ∷ []) d ≡ true
    defined = (λ k. not d.undef || (pd.virtual k && few k)) ∙ or-true (not d.undef)

    twelve : V12 t forms.Source f x ≡ true
    unfolding V12
    twelve =
        (λ k. list_all (undef_fits forms.Source (d ∷ s ∷ [])) (defs k) && no_two_share (map (defined_lanes t f (opaque k)) (defs k)) && list_all (early_fits t f (bound-is k)) (numbered 0 (bound-is k)) && undef_uses_fit (opaque k) (bound-is k))
        ∙ (λ k. (defined k && true) && no_two_share (defined_lanes t f false d ∷ []) && list_all (early_fits t f bs) (numbered 0 bs) && undef_uses_fit false bs)

    fifteen : V15 t forms.Source f x ≡ true
    unfolding V15
    fifteen = λ k. not (ap (passes spills_or_reloads) copies k)

    pub copy-rules : InstrRules t f x
    copy-rules =
        let y = opcode-of t x effects.Copy copies in
        record { known = (y.0, y.1); one = one; two = two; three = three; four = four; eleven = eleven; twelve = twelve; fifteen = fifteen }

  module _ (i : Instr) (d : RegOp) (pd : IsPlain t f d) (defines : d.def ≡ true) (whole : d.undef ≡ false) where
    abbrev z : Instr
    z = record i { op = ops.Known implicit_def_op; operands = operands.Reg d ∷ [] }

    abbrev cs : List Bound
    cs = free d ∷ []

    makes-undefined : effect_of t z ≡ Some effects.ImplicitDef
    makes-undefined = undef-effect t z refl

    bare-too : roles_of t z ≡ []
    bare-too = bare-roles t z effects.ImplicitDef makes-undefined refl

    bound-one : bound t z ≡ cs
    bound-one =
        λ k. explicit_bound (explicit_roles (bare-too k)) (cond (not (pd.explicit k)) (operands.Reg d ∷ []) [])
        ++ map (implicit_bound (implicit_roles (bare-too k))) (cond (pd.explicit k) (d ∷ []) [])

    first : V1 t f z ≡ true
    unfolding V1
    first =
        let y = opcode-of t z effects.ImplicitDef makes-undefined in
        subst (λ q. elim q as (λ q. Bool) [ None ↦ true | Some w ↦ operands_fit t f w z.operands w.effect ] ≡ true) (sym y.1)
        (ap (operands_fit t f y.0 z.operands) y.2 ∙ (λ k. defines k && not (pd.explicit k)))

    second : V2 t f z ≡ true
    unfolding V2
    second =
        let y = opcode-of t z effects.ImplicitDef makes-undefined in
        subst (λ q. elim q as (λ q. Bool) [ None ↦ true | Some w ↦ list_all (in_operand_class t f w.effect) (bound t z) && widths_fit t f w.effect z.operands ] ≡ true) (sym y.1)
        ((λ k. list_all (in_operand_class t f (y.2 k)) (bound-one k) && widths_fit t f (y.2 k) z.operands)
        ∙ (λ k. (or-true (not (has_lanes t f d) || is_taken_reserved t effects.ImplicitDef None d.loc) k && true) && true))

    third : V3 f z ≡ true
    unfolding V3
    third = λ k. pd.class k && true

    fourth : V4 t f z ≡ true
    unfolding V4
    fourth = λ k. (pd.index k && true) && (not (ap (passes puts_together) makes-undefined k) || subregs_fit t f z.operands)

    eleventh : V11 t forms.Source f z ≡ true
    unfolding V11
    eleventh =
        (λ k. list_all flags_fit (bound-one k) && list_all (λ (p : TiedPair). tie_fits t forms.Source f p.definition p.tied_use) (filter_map (tied_pair z.operands) (bound-one k)))
        ∙ (λ k. (takes d pd k && true) && true)

    opaque-none : does is_opaque t z ≡ false
    opaque-none = ap (passes is_opaque) makes-undefined

    twelfth : V12 t forms.Source f z ≡ true
    unfolding V12
    twelfth =
        (λ k. list_all (undef_fits forms.Source (d ∷ [])) (cond (defines k) (d ∷ []) []) && no_two_share (map (defined_lanes t f (opaque-none k)) (cond (defines k) (d ∷ []) [])) && list_all (early_fits t f (bound-one k)) (numbered 0 (bound-one k)) && undef_uses_fit (opaque-none k) (bound-one k))
        ∙ (λ k. ((not (whole k) || (is_virtual d.loc && nat_le (length (filter (λ (o : RegOp). same_loc o.loc d.loc) (filter (λ (o : RegOp). o.def || not o.undef) (d ∷ [])))) 1)) && true) && no_two_share (defined_lanes t f false d ∷ []) && list_all (early_fits t f cs) (numbered 0 cs) && undef_uses_fit false cs)

    fifteenth : V15 t forms.Source f z ≡ true
    unfolding V15
    fifteenth = λ k. not (ap (passes spills_or_reloads) makes-undefined k)

    pub undef-rules : InstrRules t f z
    undef-rules =
        let y = opcode-of t z effects.ImplicitDef makes-undefined in
        record { known = (y.0, y.1); one = first; two = second; three = third; four = fourth; eleven = eleventh; twelve = twelfth; fifteen = fifteenth }
