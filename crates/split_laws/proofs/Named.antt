-- What the rules say of the operands of a function in lowered form.
use Rattle.std.proofs.Common.{◌≡◌, ◌<◌, not, ◌&&◌, ℕ, Bool, true, false, List, [], ◌∷◌, Option, Some, None, length, refl, sym, ap, ◌∙◌, subst, arith}
use Rattle.std.specs.Prelude.{is_some, slice_get}
use Rattle.std.proofs.lemmas.Option.{slice_get_within}
use Rattle.target_base.specs.declared.types.ClassId.{ClassId}
use Rattle.target_base.specs.declared.types.Effect.{Effect}
use Rattle.target_base.specs.declared.types.Effect.TheVariants as effects
use Rattle.target_base.specs.declared.types.IndexId.{IndexId}
use Rattle.target_base.specs.declared.types.OpcodeDesc.{OpcodeDesc}
use Rattle.target_base.specs.declared.types.Target.{Target}
use Rattle.target_base.specs.Registers.{lanes_of}
use Rattle.target_base.specs.Roles.{is_silent}
use Rattle.target_base.proofs.Tests.{first_of_both, second_of_both}
use Rattle.meaning.specs.Live.{Among as Member}
use Rattle.meaning.specs.declared.types.Lane.TheVariants.{VirtualLane}
use Rattle.mir_func.specs.declared.func.Loc.{Loc}
use Rattle.mir_func.specs.declared.func.Loc.TheVariants.{Fixed, Virtual}
use Rattle.mir_func.specs.declared.func.RegOp.{RegOp}
use Rattle.mir_func.specs.declared.func.Operand.{Operand}
use Rattle.mir_func.specs.declared.func.Operand.TheVariants as operands
use Rattle.mir_func.specs.declared.func.Instr.{Instr}
use Rattle.mir_func.specs.Value.{Function}
use Rattle.mir_func.specs.Binding.{does, effect_of, implicit_registers, is_definition, is_lowered_away, is_use, is_virtual, passes, registers}
use Rattle.mir_meaning.specs.Registers.{numbers, range_widths}
use Rattle.mir_meaning.specs.Renaming.{IsFixed}
use Rattle.mir_meaning.specs.Rules.{V3, V4, copy_fits, has_class, implicit_def_fits, index_fits, operands_fit}
use Rattle.instr_effects.proofs.Members.{filter-in, map-in, map-of, member-elim, member-none}
use Rattle.live_laws.specs.Effects.Shaped.{AreClasses, IsShaped}
use Rattle.live_laws.proofs.Effects.Lists.{all-of}
use Rattle.live_laws.proofs.Effects.Shapes.{index-lanes}
use Rattle.live_laws.proofs.Touch.Roles.{Fit, fit-by, met}
use Rattle.split_laws.proofs.Copies.{number-below}
use Rattle.split_laws.proofs.Suits.{IsNamed}

-- implicit operands are physical

implicit-false : (o : RegOp) → (b : Bool) → (b && not o.implicit) ≡ true → o.implicit ≡ true → ⊥
implicit-false o b e i = go b o.implicit e i
  where
    go : (b c : Bool) → (b && not c) ≡ true → c ≡ true → ⊥
    go true true h k = absurd (cc)
    go true false h k = absurd (cc)
    go false c h k = absurd (cc)

abbrev AreFixed : List Operand → Type 0
AreFixed os = (o : RegOp) → Member o (registers os) → o.implicit ≡ true → IsFixed o.loc

none-fixed : AreFixed []
none-fixed o m i = absurd (member-none o m)

more-fixed : (d : RegOp) (os : List Operand) → (d.implicit ≡ true → ⊥) → AreFixed os → AreFixed (operands.Reg d ∷ os)
more-fixed d os n h o m i = member-elim o d (registers os) (λ e. absurd (n (ap (λ (p : RegOp). p.implicit) (sym e) ∙ i))) (λ k. h o k i) m

copy-fixed : (os : List Operand) → copy_fits os ≡ true → AreFixed os
copy-fixed (operands.Reg d ∷ operands.Reg s ∷ []) e =
    more-fixed d (operands.Reg s ∷ []) (implicit-false d d.def (first_of_both (is_definition d) (is_use s) e))
    (more-fixed s [] (implicit-false s (not s.def) (second_of_both (is_definition d) (is_use s) e)) none-fixed)
copy-fixed _ e = absurd (cc)

undef-fixed : (os : List Operand) → implicit_def_fits os ≡ true → AreFixed os
undef-fixed (operands.Reg d ∷ []) e = more-fixed d [] (implicit-false d d.def e) none-fixed
undef-fixed _ e = absurd (cc)

fixed-loc : (l : Loc) → not (is_virtual l) ≡ true → IsFixed l
fixed-loc (Virtual v) e = absurd (cc)
fixed-loc (Fixed r) e = tt

module _ (t : Target) (f : Function) where
  by-fit : (d : OpcodeDesc) (os : List Operand) (e : Effect) → Fit t f d os e → AreFixed os
  by-fit d os e z o m i = fixed-loc o.loc (first_of_both _ _ (all-of (λ (p : RegOp). not (is_virtual p.loc) && not (is_silent d.effect)) o (implicit_registers os) (filter-in (λ (p : RegOp). p.implicit) o (registers os) m i) z.implicit))

  by-effect : (d : OpcodeDesc) (os : List Operand) (e : Effect) → is_lowered_away e ≡ false → operands_fit t f d os e ≡ true → AreFixed os
  by-effect d os effects.Copy l h = copy-fixed os h
  by-effect d os effects.ImplicitDef l h = undef-fixed os h
  by-effect d os effects.Phi l h = absurd (cc)
  by-effect d os effects.RegSequence l h = absurd (cc)
  by-effect d os effects.InsertSubreg l h = absurd (cc)
  by-effect d os e l h = by-fit d os e (fit-by t f d os e refl h)

  module _ (classes : AreClasses t f) (i : Instr) (known : (e : Effect) × (effect_of t i ≡ Some e)) (lowered : does is_lowered_away t i ≡ false) (shaped : IsShaped t f i) where
    classed : (o : RegOp) → Member o (registers i.operands) → has_class f o.loc ≡ true
    unfolding V3
    classed o m = all-of (λ (x : RegOp). has_class f x.loc) o (registers i.operands) m shaped.classes

    indexed : (o : RegOp) → Member o (registers i.operands) → index_fits t f o.loc o.index ≡ true
    unfolding V4
    indexed o m = all-of (λ (x : RegOp). index_fits t f x.loc x.index) o (registers i.operands) m (first_of_both _ _ shaped.indexes)

    class-there : (w : ℕ) → has_class f (Virtual w) ≡ true → w < length f.classes
    class-there w h = go (slice_get f.classes w) refl h
      where
        go : (q : Option (Option ClassId)) → slice_get f.classes w ≡ q → is_some (elim q as (λ x. Option ClassId) [ None ↦ None | Some c ↦ c ]) ≡ true → w < length f.classes
        go None e k = absurd (cc)
        go (Some c) e k = slice_get_within f.classes w c e

    same-number : (w k j : ℕ) → VirtualLane w k ≡ VirtualLane w j → k ≡ j
    same-number w k j e = cc

    lane-within : (w : ℕ) (x : IndexId) (k : ℕ) → has_class f (Virtual w) ≡ true → index_fits t f (Virtual w) (Some x) ≡ true → Member k (lanes_of t x) → k < length (range_widths t f w)
    lane-within w x k c g m =
        let there = index-lanes t f w x (VirtualLane w k) classes c g (map-in (VirtualLane w) k (lanes_of t x) m) in
        let z = map-of (VirtualLane w) (VirtualLane w k) (numbers 0 (length (range_widths t f w))) there in
        let h = number-below 0 (length (range_widths t f w)) z.0 z.1 in
        let e = same-number w k z.0 z.2 in
        omega arith

    pub named : (o : RegOp) → Member o (registers i.operands) → IsNamed t f o
    named o m = record {
      range = λ w e. class-there w (subst (λ l. has_class f l ≡ true) e (classed o m));
      index = λ w x k e q n. lane-within w x k (subst (λ l. has_class f l ≡ true) e (classed o m)) (at-index w x e q) n;
      implicit = λ e. (let z = met t f i known.0 known.1 shaped.operands in by-effect z.0 i.operands known.0 (sym (ap (passes is_lowered_away) known.1) ∙ lowered) z.3 o m e);
    }
      where
        at-index : (w : ℕ) (x : IndexId) → o.loc ≡ Virtual w → o.index ≡ Some x → index_fits t f (Virtual w) (Some x) ≡ true
        at-index w x e q = subst (λ l. index_fits t f l (Some x) ≡ true) e (subst (λ y. index_fits t f o.loc y ≡ true) q (indexed o m))
