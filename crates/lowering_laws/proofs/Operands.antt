-- What the rules say of operands: registers have classes, implicit ones are physical, phis have their shape.
use Rattle.std.proofs.Common.{◌≡◌, ◌∷◌, ◌∙◌, ◌&&◌, ◌≤◌, not, ℕ, suc, Bool, true, false, List, Option, Some, None, map, length, refl, sym, ap, arith, []}
use Rattle.std.specs.Prelude.{is_none, option_map, slice_index}
use Rattle.std.specs.List.{list_all}
use Rattle.target_base.specs.declared.types.Effect.{Effect}
use Rattle.target_base.specs.declared.types.Effect.TheVariants as effects
use Rattle.target_base.specs.declared.types.IndexId.{IndexId}
use Rattle.target_base.specs.declared.types.OpcodeDesc.{OpcodeDesc}
use Rattle.target_base.specs.declared.types.Target.{Target}
use Rattle.target_base.specs.Registers.{lanes_of}
use Rattle.target_base.specs.Roles.{is_silent}
use Rattle.target_base.specs.Rules.{is_phi}
use Rattle.target_base.proofs.Tests.{first_of_both, second_of_both}
use Rattle.meaning.specs.Live.{Among, here, there}
use Rattle.meaning.specs.declared.types.Lane.TheVariants.{VirtualLane}
use Rattle.mir_func.specs.declared.func.Loc.{Loc}
use Rattle.mir_func.specs.declared.func.Loc.TheVariants.{Fixed, Virtual}
use Rattle.mir_func.specs.declared.func.RegOp.{RegOp}
use Rattle.mir_func.specs.declared.func.Operand.{Operand}
use Rattle.mir_func.specs.declared.func.Operand.TheVariants as operands
use Rattle.mir_func.specs.declared.func.Instr.{Instr}
use Rattle.mir_func.specs.Value.{Function}
use Rattle.mir_func.specs.Binding.{does, effect_of, implicit_registers, is_definition, is_use, is_virtual, passes, registers}
use Rattle.mir_meaning.specs.Registers.{located_lanes, located_widths, numbers, operand_lanes, operand_widths, range_widths}
use Rattle.mir_meaning.specs.Renaming.{IsFixed}
use Rattle.mir_meaning.specs.Rules.{V3, copy_fits, has_class, has_lanes, implicit_def_fits, index_pairs, insertion, is_virtual_use, is_whole_definition, operands_fit, phi_pairs, result_and, same_widths, widths_fit}
use Rattle.instr_effects.proofs.Members.{filter-in, member-elim, member-none}
use Rattle.live_laws.specs.Effects.Shaped.{IsShaped}
use Rattle.live_laws.proofs.Effects.Lists.{all-of}
use Rattle.live_laws.proofs.Effects.Shapes.{lanes-there, same-lanes, widths-of}
use Rattle.live_laws.proofs.Touch.Effects.{numbers-long}
use Rattle.live_laws.proofs.Touch.Roles.{Fit, fit-by, met}
use Rattle.lowering_laws.proofs.Classes.{AllNamed, IsNamed}
use Rattle.lowering_laws.proofs.Ruled.{EachRules, InstrRules}

not-true : (b : Bool) → not b ≡ true → b ≡ false
not-true true e = absurd (cc)
not-true false e = refl

-- the operand isn't implicit
abbrev IsPlain : RegOp → Type 0
IsPlain o = o.implicit ≡ false

definition-plain : (o : RegOp) → is_definition o ≡ true → IsPlain o
definition-plain o e = not-true o.implicit (second_of_both o.def (not o.implicit) e)

use-plain : (o : RegOp) → is_use o ≡ true → IsPlain o
use-plain o e = not-true o.implicit (second_of_both (not o.def) (not o.implicit) e)

-- all registers are plain
abbrev ArePlain : List Operand → Type 0
ArePlain os = (o : RegOp) → Among o (registers os) → IsPlain o

more-plain : (d : RegOp) (os : List Operand) → IsPlain d → ArePlain os → (o : RegOp) → Among o (d ∷ registers os) → IsPlain o
more-plain d os p n o m = member-elim o d (registers os) (λ e. ap (λ x. x.implicit) e ∙ p) (λ k. n o k) m

none-plain : ArePlain []
none-plain o m = absurd (member-none o m)

virtual-plain : (o : RegOp) → is_virtual_use o ≡ true → IsPlain o
virtual-plain o e = use-plain o (first_of_both (is_use o) (is_virtual o.loc) e)

whole-plain : (o : RegOp) → is_whole_definition o ≡ true → IsPlain o
whole-plain o e = definition-plain o (first_of_both _ _ (first_of_both _ _ e))

copy-plain : (os : List Operand) → copy_fits os ≡ true → ArePlain os
copy-plain (operands.Reg d ∷ operands.Reg s ∷ []) e = more-plain d (operands.Reg s ∷ []) (definition-plain d (first_of_both _ _ e)) (more-plain s [] (use-plain s (second_of_both _ _ e)) none-plain)
copy-plain _ e = absurd (cc)

undef-plain : (os : List Operand) → implicit_def_fits os ≡ true → ArePlain os
undef-plain (operands.Reg d ∷ []) e = more-plain d [] (definition-plain d e) none-plain
undef-plain _ e = absurd (cc)

pairs-plain : (os : List Operand) → phi_pairs os ≡ true → ArePlain os
pairs-plain [] e = none-plain
pairs-plain (operands.Reg s ∷ operands.Block n ∷ os) e = more-plain s (operands.Block n ∷ os) (virtual-plain s (first_of_both _ _ e)) (pairs-plain os (second_of_both _ _ e))
pairs-plain os e = absurd (cc)

indexes-plain : (os : List Operand) → index_pairs os ≡ true → ArePlain os
indexes-plain [] e = none-plain
indexes-plain (operands.Reg s ∷ operands.Index x ∷ os) e = more-plain s (operands.Index x ∷ os) (virtual-plain s (first_of_both _ _ e)) (indexes-plain os (second_of_both _ _ e))
indexes-plain os e = absurd (cc)

insertion-plain : (os : List Operand) → insertion os ≡ true → ArePlain os
insertion-plain (operands.Reg a ∷ operands.Reg b ∷ operands.Index x ∷ []) e = more-plain a (operands.Reg b ∷ operands.Index x ∷ []) (virtual-plain a (first_of_both _ _ e)) (more-plain b (operands.Index x ∷ []) (virtual-plain b (second_of_both _ _ e)) none-plain)
insertion-plain _ e = absurd (cc)

result-plain : (test : List Operand → Bool) → ((os : List Operand) → test os ≡ true → ArePlain os) → (os : List Operand) → result_and test os ≡ true → ArePlain os
result-plain test by (operands.Reg d ∷ os) e = more-plain d os (whole-plain d (first_of_both _ _ e)) (by os (second_of_both _ _ e))
result-plain test by os e = absurd (cc)

plain-fixed : (o : RegOp) → IsPlain o → o.implicit ≡ true → IsFixed o.loc
plain-fixed o p e = absurd (cc)

fixed-loc : (l : Loc) → not (is_virtual l) ≡ true → IsFixed l
fixed-loc (Virtual v) e = absurd (cc)
fixed-loc (Fixed r) e = tt

module _ (t : Target) (f : Function) where
  abbrev AreFixed : List Operand → Type 0
  AreFixed os = (o : RegOp) → Among o (registers os) → o.implicit ≡ true → IsFixed o.loc

  plainly : (os : List Operand) → ArePlain os → AreFixed os
  plainly os p o m = plain-fixed o (p o m)

  by-fit : (d : OpcodeDesc) (os : List Operand) (e : Effect) → Fit t f d os e → AreFixed os
  by-fit d os e z o m i = fixed-loc o.loc (first_of_both _ _ (all-of (λ (p : RegOp). not (is_virtual p.loc) && not (is_silent d.effect)) o (implicit_registers os) (filter-in (λ (p : RegOp). p.implicit) o (registers os) m i) z.implicit))

  by-effect : (d : OpcodeDesc) (os : List Operand) (e : Effect) → operands_fit t f d os e ≡ true → AreFixed os
  by-effect d os effects.Copy h = plainly os (copy-plain os h)
  by-effect d os effects.ImplicitDef h = plainly os (undef-plain os h)
  by-effect d os effects.Phi h = plainly os (result-plain phi_pairs pairs-plain os h)
  by-effect d os effects.RegSequence h = plainly os (result-plain index_pairs indexes-plain os h)
  by-effect d os effects.InsertSubreg h = plainly os (result-plain insertion insertion-plain os h)
  by-effect d os e h = by-fit d os e (fit-by t f d os e refl h)

  module _ (i : Instr) (r : InstrRules t f i) where
    -- the effect of an instruction, and its fit
    pub known-effect : (e : Effect) × (effect_of t i ≡ Some e)
    known-effect = (r.known.0.effect, ap (option_map (λ (d : OpcodeDesc). d.effect)) r.known.1)

    pub named : (o : RegOp) → Among o (registers i.operands) → IsNamed f o
    unfolding V3
    named o m =
        let e = known-effect in
        let z = met t f i e.0 e.1 r.one in
        record { class = all-of (λ (x : RegOp). has_class f x.loc) o (registers i.operands) m r.three; fixed = by-effect z.0 i.operands e.0 z.3 o m }

    pub shaped : IsShaped t f i
    shaped = record { operands = r.one; widths = r.two; classes = r.three; indexes = r.four; definitions = r.twelve }

  pub all-named : EachRules t f → AllNamed f f.blocks
  all-named rules b i mb mi o m = named i (rules b i mb mi) o m

-- phis

is-phi : (e : Effect) → is_phi e ≡ true → e ≡ effects.Phi
is-phi effects.Phi h = refl
is-phi e h = absurd (cc)

pub phi-effect : (t : Target) (i : Instr) → does is_phi t i ≡ true → effect_of t i ≡ Some effects.Phi
phi-effect t i e = go (effect_of t i) refl e
  where
    go : (q : Option Effect) → effect_of t i ≡ q → passes is_phi q ≡ true → effect_of t i ≡ Some effects.Phi
    go None g h = absurd (cc)
    go (Some x) g h = g ∙ ap Some (is-phi x h)

-- a phi's operands: the result, a whole virtual register, and pairs whose registers are virtual and as many lanes wide
pub record PhiShape (t : Target) (f : Function) (os : List Operand) : Type 0 where
  pub d : RegOp
  pub rest : List Operand
  pub v : ℕ
  pub are : os ≡ operands.Reg d ∷ rest
  pub loc : d.loc ≡ Virtual v
  pub index : d.index ≡ None
  pub is : is_definition d ≡ true
  pub pairs : phi_pairs rest ≡ true
  pub wide : list_all (same_widths t f d) (registers rest) ≡ true
  pub long : (s : RegOp) → Among s (registers rest) → length (numbers 0 (length (range_widths t f v))) ≤ length (operand_lanes t f s)

pub pair-virtual : (os : List Operand) (s : RegOp) → phi_pairs os ≡ true → Among s (registers os) → is_virtual s.loc ≡ true
pair-virtual [] s e m = absurd (member-none s m)
pair-virtual (operands.Reg p ∷ operands.Block n ∷ os) s e m =
    member-elim s p (registers os) (λ q. ap (λ x. is_virtual x.loc) q ∙ second_of_both (is_use p) (is_virtual p.loc) (first_of_both _ _ e)) (λ k. pair-virtual os s (second_of_both _ _ e) k) m
pair-virtual os s e m = absurd (cc)

-- a virtual register has as many lanes as widths
pub lanes-long : (t : Target) (f : Function) (l : Loc) (x : Option IndexId) → is_virtual l ≡ true → length (located_lanes t f l x) ≡ length (located_widths t f l x)
lanes-long t f (Virtual v) None e = map-length (VirtualLane v) (numbers 0 (length (range_widths t f v))) ∙ numbers-long 0 (length (range_widths t f v))
  where
    map-length : {A B : Type 0} (g : A → B) (xs : List A) → length (map g xs) ≡ length xs
    map-length g [] = refl
    map-length g (y ∷ xs) = ap suc (map-length g xs)
lanes-long t f (Virtual v) (Some x) e = both (lanes_of t x)
  where
    both : (xs : List ℕ) → length (map (VirtualLane v) xs) ≡ length (map (slice_index (range_widths t f v)) xs)
    both [] = refl
    both (y ∷ xs) = ap suc (both xs)
lanes-long t f (Fixed r) x e = absurd (cc)

module _ (t : Target) (f : Function) (i : Instr) (r : InstrRules t f i) (phi : does is_phi t i ≡ true) where
  by-shape : (os : List Operand) → result_and phi_pairs os ≡ true → ((o : RegOp) → Among o (registers os) → has_lanes t f o ≡ true) → widths_fit t f effects.Phi os ≡ true → PhiShape t f os
  by-shape (operands.Reg d ∷ rest) h there' w = at d.loc refl d.index refl (first_of_both (is_whole_definition d) (phi_pairs rest) h)
    where
      pairs : phi_pairs rest ≡ true
      pairs = second_of_both (is_whole_definition d) (phi_pairs rest) h

      at : (l : Loc) → d.loc ≡ l → (x : Option IndexId) → d.index ≡ x → (is_definition d && is_virtual d.loc && is_none d.index) ≡ true → PhiShape t f (operands.Reg d ∷ rest)
      at (Fixed q) e x g p = absurd (let z = second_of_both (is_definition d) (is_virtual d.loc) (first_of_both (is_definition d && is_virtual d.loc) (is_none d.index) p) in let y : is_virtual (Fixed q) ≡ true = ap is_virtual (sym e) ∙ z in cc)
      at (Virtual v) e (Some x) g p = absurd (let z = second_of_both (is_definition d && is_virtual d.loc) (is_none d.index) p in let y : is_none (Some x) ≡ true = ap is_none (sym g) ∙ z in cc)
      at (Virtual v) e None g p = record {
        d = d;
        rest = rest;
        v = v;
        are = refl;
        loc = e;
        index = g;
        is = first_of_both (is_definition d) (is_virtual d.loc) (first_of_both (is_definition d && is_virtual d.loc) (is_none d.index) (first_of_both (is_whole_definition d) (phi_pairs rest) h));
        pairs = pairs;
        wide = w;
        long = λ s m.
            let one = same-lanes t f d s (there' d here) (there' s (there m)) (all-of (same_widths t f d) s (registers rest) m w) in
            let two : length (operand_lanes t f s) ≡ length (operand_widths t f s) = lanes-long t f s.loc s.index (pair-virtual rest s pairs m) in
            let own : length (operand_widths t f d) ≡ length (range_widths t f v) = λ q. length (located_widths t f (e q) (g q)) in
            let three = numbers-long 0 (length (range_widths t f v)) in
            omega (arith, one, two, own, three);
      }
  by-shape os h there' w = absurd (cc)

  pub phi-shape : PhiShape t f i.operands
  phi-shape =
      let e = phi-effect t i phi in
      by-shape i.operands (met t f i effects.Phi e r.one).3 (lanes-there t f i (shaped t f i r)) (widths-of t f i effects.Phi e r.two)
