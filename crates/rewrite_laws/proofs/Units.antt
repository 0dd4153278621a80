-- Units of registers: each stands once, those of a class have one list of widths, and an index picks some of them.
use Rattle.std.proofs.Common.{◌≡◌, ◌∷◌, ◌∙◌, ℕ, zero, suc, Bool, true, false, not, List, [], Option, Some, None, map, length, refl, sym, ap, subst, eqb-true}
use Rattle.std.specs.Prelude.{is_some, option_map, slice_get, slice_index}
use Rattle.target_base.specs.declared.types.ClassDesc.{ClassDesc}
use Rattle.target_base.specs.declared.types.ClassId.{ClassId}
use Rattle.target_base.specs.declared.types.IndexId.{IndexId}
use Rattle.target_base.specs.declared.types.Reg.{Reg}
use Rattle.target_base.specs.declared.types.RegDesc.{RegDesc}
use Rattle.target_base.specs.declared.types.Target.{Target}
use Rattle.target_base.specs.declared.types.Unit.{Unit as UnitNumber}
use Rattle.target_base.specs.Names.{are_distinct_numbers}
use Rattle.target_base.specs.Numbers.{reg_number, unit_number}
use Rattle.target_base.specs.Registers.{fits, is_reserved_unit, lanes_of, regs_of, sub_of, units_of, widths_of}
use Rattle.target_base.specs.Rules.{is_class_desc, is_reg_desc}
use Rattle.target_base.specs.Storage.{class_widths, is_among, is_picked, is_unit, is_unreserved, reg_units, regs_in, same_numbers, sub_place, units_in, widths}
use Rattle.target_base.proofs.Sound.{classes_sound, regs_sound}
use Rattle.target_base.proofs.Tests.{first_of_both, second_of_both}
use Rattle.meaning.specs.Live.{Among as Member}
use Rattle.mir_meaning.specs.Registers.{numbers}
use Rattle.instr_effects.proofs.Members.{member-none}
use Rattle.live_laws.proofs.Effects.Blocks.{slice-map, slice-member}
use Rattle.live_laws.proofs.Effects.Lists.{all-of, distinct-apart}
use Rattle.live_laws.proofs.Effects.Moved.{Apart}
use Rattle.live_laws.proofs.Effects.Moving.{some-same}
use Rattle.lowering_laws.proofs.Seated.{same-numbers}
use Rattle.join_laws.proofs.Subsets.{position-gives}

-- lists by their places

numbers-on : {X : Type 0} (h : ℕ → X) (n k : ℕ) → map h (numbers (suc n) k) ≡ map (λ i. h (suc i)) (numbers n k)
numbers-on h n zero = refl
numbers-on h n (suc k) = ap (λ xs. h (suc n) ∷ xs) (numbers-on h (suc n) k)

-- what is made of each place of a list is what is made of each element
pub all-places : {X Y : Type 0} (h : ℕ → Y) (g : X → Y) (xs : List X) → ((k : ℕ) (x : X) → slice_get xs k ≡ Some x → h k ≡ g x) → map h (numbers 0 (length xs)) ≡ map g xs
all-places h g [] e = refl
all-places h g (x ∷ xs) e = λ i. e 0 x refl i ∷ (numbers-on h 0 (length xs) ∙ all-places (λ k. h (suc k)) g xs (λ k y q. e (suc k) y q)) i

unit-at : (o : Option UnitNumber) (p : UnitNumber) → is_unit o p ≡ true → o ≡ Some p
unit-at None p e = absurd (cc)
unit-at (Some v) p e = λ i. Some (unit_number (eqb-true v.0 p.0 e i))

-- what is made of the places that lanes pick is what is made of the units that they pick
pub picked-places : {Y : Type 0} (h : ℕ → Y) (g : UnitNumber → Y) (us : List UnitNumber) (ks : List ℕ) (ps : List UnitNumber) → is_picked us ks ps ≡ true → ((k : ℕ) (u : UnitNumber) → slice_get us k ≡ Some u → h k ≡ g u) → map h ks ≡ map g ps
picked-places h g us [] [] e f = refl
picked-places h g us [] (p ∷ ps) e f = absurd (cc)
picked-places h g us (k ∷ ks) [] e f = absurd (cc)
picked-places h g us (k ∷ ks) (p ∷ ps) e f =
    λ i. f k p (unit-at (slice_get us k) p (first_of_both (is_unit (slice_get us k) p) (is_picked us ks ps) e)) i
    ∷ picked-places h g us ks ps (second_of_both (is_unit (slice_get us k) p) (is_picked us ks ps) e) f i

pub mapped-at : {X : Type 0} (w : X → ℕ) (xs : List X) (k : ℕ) (x : X) → slice_get xs k ≡ Some x → slice_index (map w xs) k ≡ w x
mapped-at w [] k x e = absurd (cc)
mapped-at w (y ∷ xs) zero x e = ap w (some-same y x e)
mapped-at w (y ∷ xs) (suc k) x e = mapped-at w xs k x e

-- in a list of which no two are equal each stands at one place
one-place : {X : Type 0} (xs : List X) → Apart xs → (j k : ℕ) (x : X) → slice_get xs j ≡ Some x → slice_get xs k ≡ Some x → j ≡ k
one-place [] a j k x e g = absurd (cc)
one-place (y ∷ xs) a zero zero x e g = refl
one-place (y ∷ xs) a zero (suc k) x e g = absurd (a.0 (subst (λ z. Member z xs) (sym (some-same y x e)) (slice-member xs k x g)))
one-place (y ∷ xs) a (suc j) zero x e g = absurd (a.0 (subst (λ z. Member z xs) (sym (some-same y x g)) (slice-member xs j x e)))
one-place (y ∷ xs) a (suc j) (suc k) x e g = ap suc (one-place xs a.1 j k x e g)

module _ (t : Target) where
  reg-rule : (d : RegDesc) (k : ℕ) → slice_get t.regs k ≡ Some d → is_reg_desc t.version t.units d ≡ true
  reg-rule d k e =
      let all = second_of_both _ _ (first_of_both _ _ (regs_sound t.name t.version t.units t.regs t.reserved t.indexes t.classes t.masks t.opcodes t.sound)) in
      all-of (is_reg_desc t.version t.units) d t.regs (slice-member t.regs k d e) all

  units-distinct : (r : Reg) → are_distinct_numbers (map (λ (w : UnitNumber). w.0) (units_of t r)) ≡ true
  units-distinct r = go (slice_get t.regs r.0) refl
    where
      go : (o : Option RegDesc) → slice_get t.regs r.0 ≡ o → are_distinct_numbers (map (λ (w : UnitNumber). w.0) (units_in o)) ≡ true
      go None e = refl
      go (Some d) e = second_of_both _ _ (first_of_both _ _ (reg-rule d r.0 e))

  -- a unit stands in a register once
  pub unit-once : (r : Reg) (j k : ℕ) (u : UnitNumber) → slice_get (units_of t r) j ≡ Some u → slice_get (units_of t r) k ≡ Some u → j ≡ k
  unit-once r j k u e g =
      let us = units_of t r in
      let at : (n : ℕ) → slice_get us n ≡ Some u → slice_get (map (λ (w : UnitNumber). w.0) us) n ≡ Some u.0 = λ n h. slice-map (λ (w : UnitNumber). w.0) us n ∙ ap (option_map (λ (w : UnitNumber). w.0)) h in
      one-place (map (λ (w : UnitNumber). w.0) us) (distinct-apart (map (λ (w : UnitNumber). w.0) us) (units-distinct r)) j k u.0 (at j e) (at k g)

  class-rule : (d : ClassDesc) (k : ℕ) → slice_get t.classes k ≡ Some d → is_class_desc t.units t.regs d ≡ true
  class-rule d k e =
      let all = second_of_both _ _ (first_of_both _ _ (classes_sound t.name t.version t.units t.regs t.reserved t.indexes t.classes t.masks t.opcodes t.sound)) in
      all-of (is_class_desc t.units t.regs) d t.classes (slice-member t.classes k d e) all

  -- a register of a class has the widths of the class
  pub widths-in-class : (c : ClassId) (r : Reg) → Member r (regs_of t c) → widths t.units (units_of t r) ≡ widths_of t c
  widths-in-class c r m = go (slice_get t.classes c.0) refl m
    where
      go : (o : Option ClassDesc) → slice_get t.classes c.0 ≡ o → Member r (regs_in o) → widths t.units (units_of t r) ≡ class_widths t.units t.regs (regs_in o)
      go None e m = absurd (member-none r m)
      go (Some d) e m =
          same-numbers (widths t.units (units_of t r)) (class_widths t.units t.regs d.regs)
          (all-of (λ (q : Reg). same_numbers (widths t.units (reg_units t.regs q)) (class_widths t.units t.regs d.regs)) r d.regs m (second_of_both _ _ (class-rule d c.0 e)))

  -- no unit of an unreserved register is reserved
  pub unit-free : (r : Reg) → is_unreserved t.reserved t.regs r ≡ true → (k : ℕ) (u : UnitNumber) → slice_get (units_of t r) k ≡ Some u → is_reserved_unit t u.0 ≡ false
  unit-free r e k u g = go (is_among t.reserved u) (all-of (λ (w : UnitNumber). not (is_among t.reserved w)) u (units_of t r) (slice-member (units_of t r) k u g) e)
    where
      go : (b : Bool) → not b ≡ true → b ≡ false
      go true h = absurd (cc)
      go false h = refl

  -- the part of a register that an index names
  pub record IsPart (r : Reg) (x : IndexId) (q : Reg) : Type 0 where
    pub is : sub_of t r x ≡ Some q
    pub picked : is_picked (units_of t r) (lanes_of t x) (units_of t q) ≡ true

  -- where the index fits a class, each register of it has one
  pub part-there : (c : ClassId) (x : IndexId) (r : Reg) → Member r (regs_of t c) → fits t c (Some x) ≡ true → (q : Reg) × IsPart r x q
  part-there c x r m e =
      go (sub_place t.regs (units_of t r) (lanes_of t x)) refl (all-of (λ (q : Reg). is_some (sub_place t.regs (reg_units t.regs q) (lanes_of t x))) r (regs_of t c) m e)
    where
      go : (o : Option ℕ) → sub_place t.regs (units_of t r) (lanes_of t x) ≡ o → is_some o ≡ true → (q : Reg) × IsPart r x q
      go None h s = absurd (cc)
      go (Some n) h s =
          let z = position-gives (λ (d : RegDesc). is_picked (units_of t r) (lanes_of t x) d.units) t.regs n h in
          let units : units_of t (reg_number n) ≡ z.0.units = ap units_in z.1 in
          (reg_number n, record { is = ap (option_map reg_number) h; picked = ap (is_picked (units_of t r) (lanes_of t x)) units ∙ z.2 })
