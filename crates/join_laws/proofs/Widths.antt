-- Classes, widths and registers of ranges after a join.
use Rattle.std.proofs.Common.{◌≡◌, ◌∷◌, ◌∙◌, ◌&&◌, ◌||◌, not, ℕ, zero, suc, Bool, true, false, cond, List, [], Option, Some, None, refl, sym, ap, subst, eqb-true, eq-eqb}
use Rattle.std.specs.Prelude.{is_some, nat_eq, slice_get, slice_set}
use Rattle.std.proofs.lemmas.Bool.{eqb-false}
use Rattle.target_base.specs.declared.types.ClassId.{ClassId}
use Rattle.target_base.specs.declared.types.IndexId.{IndexId}
use Rattle.target_base.specs.declared.types.Target.{Target}
use Rattle.target_base.specs.Registers.{IsClass, widths_of_some}
use Rattle.target_base.specs.Rules.{regs_of_some}
use Rattle.target_base.specs.Storage.{is_within}
use Rattle.target_base.proofs.Tests.{first_of_both}
use Rattle.mir_func.specs.Value.{Function}
use Rattle.mir_func.specs.Binding.{class_of}
use Rattle.mir_meaning.specs.Registers.{range_widths}
use Rattle.live_laws.specs.Effects.Shaped.{AreClasses}
use Rattle.live_edits.specs.declared.fold.Join.{Join}
use Rattle.live_edits.specs.Folded.{folded, is_narrower, joined_class, registers_of}
use Rattle.join_laws.proofs.Asked.{IsAsked}
use Rattle.join_laws.proofs.Subsets.{within-itself}

-- the class at a place of a list; none where there is no such place
abbrev class_in : List (Option ClassId) → ℕ → Option ClassId
class_in cs v = elim (slice_get cs v) as (λ q. Option ClassId) [ None ↦ None | Some c ↦ c ]

set-own : (c : Option ClassId) (cs : List (Option ClassId)) (v : ℕ) → is_some (class_in cs v) ≡ true → class_in (slice_set cs v c) v ≡ c
set-own c [] v h = absurd (cc)
set-own c (d ∷ cs) zero h = refl
set-own c (d ∷ cs) (suc v) h = set-own c cs v h

set-other : (c : Option ClassId) (cs : List (Option ClassId)) (v w : ℕ) → (v ≡ w → ⊥) → class_in (slice_set cs v c) w ≡ class_in cs w
set-other c [] v w h = refl
set-other c (d ∷ cs) zero zero h = absurd (h refl)
set-other c (d ∷ cs) zero (suc w) h = refl
set-other c (d ∷ cs) (suc v) zero h = refl
set-other c (d ∷ cs) (suc v) (suc w) h = set-other c cs v w (λ e. h (ap suc e))

module _ (t : Target) (f : Function) (j : Join) (a : IsAsked t f j) where
  abbrev pub g : Function
  g = folded t j f

  abbrev new : Option ClassId
  new = joined_class t f j j.index

  pub class-after : (w : ℕ) → class_of g w ≡ cond (nat_eq j.keep w) new (class_of f w)
  class-after w = go (nat_eq j.keep w) refl
    where
      go : (u : Bool) → nat_eq j.keep w ≡ u → class_of g w ≡ cond u new (class_of f w)
      go true e = subst (λ v. class_of g v ≡ new) (eqb-true j.keep w e) (set-own new f.classes j.keep a.keep)
      go false e = set-other new f.classes j.keep w (eqb-false j.keep w e)

  -- what holds of the class of each range holds of the classes of ranges after the join, where it holds of both for the new one
  by-class : (P : ℕ → Option ClassId → Type 0) → ((w : ℕ) → P w (class_of f w)) → P j.keep new → (w : ℕ) → P w (class_of g w)
  by-class P old own w = subst (P w) (sym (class-after w)) (go (nat_eq j.keep w) refl)
    where
      go : (u : Bool) → nat_eq j.keep w ≡ u → P w (cond u new (class_of f w))
      go true e = subst (λ v. P v new) (eqb-true j.keep w e) own
      go false e = old w

  -- the new class by the index of the join

  abbrev gone-first : Bool
  gone-first = is_narrower t f j.gone j.keep && not (is_narrower t f j.keep j.gone)

  by-new : (P : Option ClassId → Type 0) → P (class_of f j.keep) → (j.index ≡ None → gone-first ≡ true → P (class_of f j.gone)) → P new
  by-new P keep gone = at j.index refl
    where
      go : j.index ≡ None → (u : Bool) → gone-first ≡ u → P (cond u (class_of f j.gone) (class_of f j.keep))
      go i true e = gone i e
      go i false e = keep

      at : (x : Option IndexId) → j.index ≡ x → P (joined_class t f j x)
      at None e = go e gone-first refl
      at (Some x) e = keep

  pub widths-after : (w : ℕ) → range_widths t g w ≡ range_widths t f w
  widths-after = by-class (λ w c. widths_of_some t c ≡ range_widths t f w) (λ w. refl) (by-new (λ c. widths_of_some t c ≡ range_widths t f j.keep) refl (λ i e. (a.whole i).widths))

  pub class-there : (w : ℕ) → is_some (class_of f w) ≡ true → is_some (class_of g w) ≡ true
  class-there = by-class (λ w c. is_some (class_of f w) ≡ true → is_some c ≡ true) (λ w h. h) (λ h. by-new (λ c. is_some c ≡ true) a.keep (λ i e. a.gone))

  pub classes-after : AreClasses t f → AreClasses t g
  classes-after old w = by-class (λ w c. (k : ClassId) → c ≡ Some k → IsClass t k) old (by-new (λ c. (k : ClassId) → c ≡ Some k → IsClass t k) (old j.keep) (λ i e. old j.gone)) w

  -- the registers of each range are among those that it had
  pub fewer : (w : ℕ) → is_within (registers_of t g w) (registers_of t f w) ≡ true
  fewer =
      by-class (λ w c. is_within (regs_of_some t.classes c) (registers_of t f w) ≡ true) (λ w. within-itself (registers_of t f w))
      (by-new (λ c. is_within (regs_of_some t.classes c) (registers_of t f j.keep) ≡ true) (within-itself (registers_of t f j.keep)) (λ i e. first_of_both (is_narrower t f j.gone j.keep) (not (is_narrower t f j.keep j.gone)) e))

  pub kept-class : class_of g j.keep ≡ new
  kept-class = class-after j.keep ∙ ap (λ u. cond u new (class_of f j.keep)) (eq-eqb j.keep j.keep refl)

  -- and where one stands whole for the other, among those of the range that goes
  pub fewer-whole : j.index ≡ None → is_within (registers_of t g j.keep) (registers_of t f j.gone) ≡ true
  fewer-whole i = subst (λ c. is_within (regs_of_some t.classes c) (registers_of t f j.gone) ≡ true) (sym kept-class) (subst (λ x. is_within (regs_of_some t.classes (joined_class t f j x)) (registers_of t f j.gone) ≡ true) (sym i) (go (is_narrower t f j.gone j.keep) (is_narrower t f j.keep j.gone) refl (a.whole i).narrower))
    where
      go : (u v : Bool) → is_narrower t f j.keep j.gone ≡ v → (u || v) ≡ true → is_within (regs_of_some t.classes (cond (u && not v) (class_of f j.gone) (class_of f j.keep))) (registers_of t f j.gone) ≡ true
      go true true e h = e
      go true false e h = within-itself (registers_of t f j.gone)
      go false true e h = e
      go false false e h = absurd (cc)
