-- The widths of an operand are those of the class that it lies in.
use Rattle.std.proofs.Common.{◌≡◌, ◌⊎◌, inl, inr, ◌∷◌, ◌∙◌, ◌&&◌, ◌||◌, ◌<◌, ◌≤◌, not, ℕ, zero, suc, Bool, true, false, cond, get_or, List, Option, Some, None, map, length, refl, sym, ap, subst, eqb-true, eq-eqb, arith, []}
use Rattle.std.specs.Prelude.{◌==◌, nat_lt, option_map, option_to_list, position, slice_get, slice_index, find}
use Rattle.std.specs.List.{list_all}
use Rattle.std.proofs.lemmas.Bool.{ltb-true}
use Rattle.std.proofs.lemmas.Option.{get_or_from_slice_get, slice_get_cases}
use Rattle.std.proofs.lemmas.List.Quantifiers.{position-Some}
use Rattle.target_base.specs.declared.types.ClassDesc.{ClassDesc}
use Rattle.target_base.specs.declared.types.ClassId.{ClassId}
use Rattle.target_base.specs.declared.types.Effect.{Effect}
use Rattle.target_base.specs.declared.types.IndexId.{IndexId}
use Rattle.target_base.specs.declared.types.Reg.{Reg}
use Rattle.target_base.specs.declared.types.RegDesc.{RegDesc}
use Rattle.target_base.specs.declared.types.Role.{Role}
use Rattle.target_base.specs.declared.types.Target.{Target}
use Rattle.target_base.specs.declared.types.Unit.{Unit as UnitNumber}
use Rattle.target_base.specs.Numbers.{class_number, reg_number}
use Rattle.target_base.specs.Registers.{IsClass, class_of_widths, lanes_of, move_class, part_of, regs_of, units_of, widths_of, widths_of_some}
use Rattle.target_base.specs.Roles.{is_any}
use Rattle.target_base.specs.Rules.{is_class_desc, is_reg_desc}
use Rattle.target_base.specs.Storage.{class_widths, holds_place, holds_reg, holds_subs, is_picked, is_unit, is_unreserved, is_within, reg_units, regs_in, same_numbers, sub_place, unit_width, units_in, widths}
use Rattle.target_base.proofs.Sound.{classes_sound, regs_sound}
use Rattle.target_base.proofs.Tests.{first_of_both, second_of_both}
use Rattle.meaning.specs.Live.{Among, here, there}
use Rattle.mir_func.specs.declared.func.Loc.TheVariants.{Virtual}
use Rattle.mir_func.specs.declared.func.RegOp.{RegOp}
use Rattle.mir_func.specs.declared.func.Operand.TheVariants as operands
use Rattle.mir_func.specs.Value.{Function}
use Rattle.mir_func.specs.Binding.{asked_class, class_of, moving_class, passes}
use Rattle.mir_meaning.specs.Registers.{located_widths, operand_widths}
use Rattle.mir_meaning.specs.Rules.{has_lanes, in_operand_class, is_opaque, is_taken_reserved, lies_in, register_lies_in, takes_reserved}
use Rattle.phi_elim.specs.Phis.{located_class}
use Rattle.two_address.specs.Classes.{class_asked, first_register}
use Rattle.live_laws.proofs.Effects.Blocks.{slice-member}
use Rattle.live_laws.proofs.Effects.Lists.{all-of, any-in}
use Rattle.live_laws.proofs.Effects.Shapes.{class-registers}
use Rattle.live_laws.proofs.Touch.Cells.{any-of}
use Rattle.live_laws.specs.Effects.Shaped.{AreClasses}
use Rattle.lowering_laws.proofs.Seated.{same-numbers}

module _ (t : Target) where
  are-classes : list_all (is_class_desc t.units t.regs) t.classes ≡ true
  are-classes = second_of_both _ _ (first_of_both _ _ (classes_sound t.name t.version t.units t.regs t.reserved t.indexes t.classes t.masks t.opcodes t.sound))

  pub are-registers : list_all (is_reg_desc t.version t.units) t.regs ≡ true
  are-registers = second_of_both _ _ (first_of_both _ _ (regs_sound t.name t.version t.units t.regs t.reserved t.indexes t.classes t.masks t.opcodes t.sound))

  same-units : (q r : Reg) → (q.0 == r.0) ≡ true → units_of t q ≡ units_of t r
  same-units q r e = ap (λ n. units_in (slice_get t.regs n)) (eqb-true q.0 r.0 e)

  held-widths : (d : ClassDesc) → is_class_desc t.units t.regs d ≡ true → (r : Reg) → holds_reg d.regs r ≡ true → widths t.units (units_of t r) ≡ class_widths t.units t.regs d.regs
  held-widths d g r h =
      let z = any-of (λ (q : Reg). q.0 == r.0) d.regs h in
      let each = second_of_both _ _ g in
      let own = all-of (λ (q : Reg). same_numbers (widths t.units (reg_units t.regs q)) (class_widths t.units t.regs d.regs)) z.0 d.regs z.1 each in
      ap (widths t.units) (sym (same-units z.0 r z.2)) ∙ same-numbers (widths t.units (reg_units t.regs z.0)) (class_widths t.units t.regs d.regs) own

  -- a register of a class has its widths
  pub class-alike : (k : ClassId) (r : Reg) → holds_reg (regs_of t k) r ≡ true → widths t.units (units_of t r) ≡ widths_of t k
  class-alike k r h = go (slice_get t.classes k.0) refl h
    where
      go : (q : Option ClassDesc) → slice_get t.classes k.0 ≡ q → holds_reg (regs_in q) r ≡ true → widths t.units (units_of t r) ≡ class_widths t.units t.regs (regs_in q)
      go None e g = absurd (cc)
      go (Some d) e g = held-widths d (all-of (is_class_desc t.units t.regs) d t.classes (slice-member t.classes k.0 d e) are-classes) r g

  picked-at : (us : List UnitNumber) (k : ℕ) (v : UnitNumber) → slice_get us k ≡ Some v → get_or (widths t.units us) k 0 ≡ unit_width t.units v
  picked-at [] k v e = absurd (cc)
  picked-at (u ∷ us) zero v e = ap (unit_width t.units) (same u v e)
    where
      same : (a b : UnitNumber) → Some a ≡ Some b → a ≡ b
      same a b e = cc
  picked-at (u ∷ us) (suc k) v e = picked-at us k v e

  -- what lanes pick has the widths that they pick
  picked-widths : (us : List UnitNumber) (ks : List ℕ) (ps : List UnitNumber) → is_picked us ks ps ≡ true → map (slice_index (widths t.units us)) ks ≡ widths t.units ps
  picked-widths us [] [] e = refl
  picked-widths us [] (p ∷ ps) e = absurd (cc)
  picked-widths us (k ∷ ks) [] e = absurd (cc)
  picked-widths us (k ∷ ks) (p ∷ ps) e = λ j. at (slice_get us k) refl (first_of_both (is_unit (slice_get us k) p) (is_picked us ks ps) e) j ∷ picked-widths us ks ps (second_of_both (is_unit (slice_get us k) p) (is_picked us ks ps) e) j
    where
      at : (q : Option UnitNumber) → slice_get us k ≡ q → is_unit q p ≡ true → slice_index (widths t.units us) k ≡ unit_width t.units p
      at None g h = absurd (cc)
      at (Some v) g h = picked-at us k v g ∙ ap (λ n. unit_width t.units (record { 0 = n })) (eqb-true v.0 p.0 h)

  -- the widths of a class through an index
  abbrev pub through_index : ClassId → Option IndexId → List ℕ
  through_index c None = widths_of t c
  through_index c (Some x) = map (slice_index (widths_of t c)) (lanes_of t x)

  sub-widths : (us : List UnitNumber) (ks : List ℕ) (k : ClassId) (q : Option ℕ) → sub_place t.regs us ks ≡ q → holds_place (regs_of t k) q ≡ true → map (slice_index (widths t.units us)) ks ≡ widths_of t k
  sub-widths us ks k None e h = absurd (cc)
  sub-widths us ks k (Some n) e h = at t.regs refl
    where
      at : (rs : List RegDesc) → t.regs ≡ rs → map (slice_index (widths t.units us)) ks ≡ widths_of t k
      at [] g = absurd (let z : sub_place [] us ks ≡ Some n = ap (λ rs. sub_place rs us ks) (sym g) ∙ e in cc)
      at (d ∷ rs) g =
          let z = position-Some (λ (x : RegDesc). is_picked us ks x.units) t.regs n d e in
          picked-widths us ks (get_or t.regs n d).units z.1
          ∙ (ap (widths t.units) (sym (unit-there n d z.0)) ∙ class-alike k (reg_number n) h)
        where
          unit-there : (n : ℕ) (d : RegDesc) → n < length t.regs → units_of t (reg_number n) ≡ (get_or t.regs n d).units
          unit-there n d h = go (slice_get_cases t.regs n).1
            where
              go : ((x : RegDesc) × (n < length t.regs) × (slice_get t.regs n ≡ Some x) × (get_or t.regs n x ≡ x)) ⊎ ((length t.regs ≤ n) × (slice_get t.regs n ≡ None)) → units_of t (reg_number n) ≡ (get_or t.regs n d).units
              go (inl z) = ap units_in z.2 ∙ ap (λ (y : RegDesc). y.units) (sym (get_or_from_slice_get t.regs n z.0 d z.2))
              go (inr z) = absurd (let y = z.0 in omega arith)

  -- what lies in a class has its widths
  pub lying-widths : (c k : ClassId) (x : Option IndexId) → IsClass t c → lies_in t k c x ≡ true → through_index c x ≡ widths_of t k
  lying-widths c k None there' h = go (regs_of t c) refl (class-registers t (slice_get t.classes c.0) c.0 refl there') h
    where
      go : (rs : List Reg) → regs_of t c ≡ rs → 0 < length rs → is_within rs (regs_of t k) ≡ true → class_widths t.units t.regs rs ≡ widths_of t k
      go [] e l g = absurd (omega arith)
      go (r ∷ rs) e l g = class-alike k r (first_of_both (holds_reg (regs_of t k) r) (is_within rs (regs_of t k)) g)
  lying-widths c k (Some x) there' h = go (regs_of t c) refl (class-registers t (slice_get t.classes c.0) c.0 refl there') h
    where
      go : (rs : List Reg) → regs_of t c ≡ rs → 0 < length rs → holds_subs t.regs (lanes_of t x) rs (regs_of t k) ≡ true → map (slice_index (class_widths t.units t.regs rs)) (lanes_of t x) ≡ widths_of t k
      go [] e l g = absurd (omega arith)
      go (r ∷ rs) e l g = sub-widths (reg_units t.regs r) (lanes_of t x) k (sub_place t.regs (reg_units t.regs r) (lanes_of t x)) refl (first_of_both (holds_place (regs_of t k) (sub_place t.regs (reg_units t.regs r) (lanes_of t x))) (holds_subs t.regs (lanes_of t x) rs (regs_of t k)) g)

module _ (t : Target) (f : Function) (classes : AreClasses t f) where
  -- a virtual operand in the class that is asked for has its widths
  pub asked-widths : (k : ClassId) (o : RegOp) (v : ℕ) → o.loc ≡ Virtual v → register_lies_in t f k o.loc o.index ≡ true → operand_widths t f o ≡ widths_of t k
  asked-widths k o v at h = (λ j. located_widths t f (at j) o.index) ∙ go (class_of f v) refl (subst (λ l. register_lies_in t f k l o.index ≡ true) at h)
    where
      by : (c : ClassId) → class_of f v ≡ Some c → (x : Option IndexId) → lies_in t k c x ≡ true → located_widths t f (Virtual v) x ≡ widths_of t k
      by c e None g = ap (widths_of_some t) e ∙ lying-widths t c k None (classes v c e) g
      by c e (Some x) g = ap (λ q. map (slice_index (widths_of_some t q)) (lanes_of t x)) e ∙ lying-widths t c k (Some x) (classes v c e) g

      go : (q : Option ClassId) → class_of f v ≡ q → passes (λ c. lies_in t k c o.index) q ≡ true → located_widths t f (Virtual v) o.index ≡ widths_of t k
      go None e g = absurd (cc)
      go (Some c) e g = by c e o.index g

  -- rule 2 of a virtual operand whose role asks for a class
  pub bound-class : (e : Effect) (r : Role) (k : ClassId) (o : RegOp) (v : ℕ) → o.loc ≡ Virtual v → asked_class r ≡ Some k → has_lanes t f o ≡ true → in_operand_class t f e (Some r, operands.Reg o) ≡ true → operand_widths t f o ≡ widths_of t k
  bound-class e r k o v at asks known h = asked-widths k o v at (by (has_lanes t f o) known (is_taken_reserved t e (Some r) o.loc) reserved h)
    where
      reserved : is_taken_reserved t e (Some r) o.loc ≡ false
      reserved = (λ j. is_taken_reserved t e (Some r) (at j)) ∙ none (is_opaque e) (takes_reserved r)
        where
          none : (a b : Bool) → (a && b && false) ≡ false
          none true true = refl
          none true false = refl
          none false b = refl

      by : (a : Bool) → a ≡ true → (b : Bool) → b ≡ false → (not a || b || list_all (λ c. register_lies_in t f c o.loc o.index) (option_to_list (asked_class r))) ≡ true → register_lies_in t f k o.loc o.index ≡ true
      by true g false q w = first_of_both (register_lies_in t f k o.loc o.index) true (subst (λ z. list_all (λ c. register_lies_in t f c o.loc o.index) (option_to_list z) ≡ true) asks w)
      by true g true q w = absurd (cc)
      by false g b q w = absurd (cc)

-- the widths of the first unreserved register of a class

pub find-in : {A : Type 0} (p : A → Bool) (xs : List A) (x : A) → find p xs ≡ Some x → Among x xs
find-in p [] x e = absurd (cc)
find-in {A} p (y ∷ xs) x e = go (p y) e (find-in p xs x)
  where
    same : (a b : A) → Some a ≡ Some b → a ≡ b
    same a b e = cc

    go : (b : Bool) → cond b (Some y) (find p xs) ≡ Some x → (find p xs ≡ Some x → Among x xs) → Among x (y ∷ xs)
    go true g ih = subst (λ z. Among z (y ∷ xs)) (same y x g) here
    go false g ih = there (ih g)

module _ (t : Target) where
  first-widths : (k : ClassId) (r : Reg) → first_register t (Some k) ≡ Some r → widths t.units (units_of t r) ≡ widths_of t k
  first-widths k r e = class-alike t k r (any-in (λ (q : Reg). q.0 == r.0) r (regs_of t k) (find-in (is_unreserved t.reserved t.regs) (regs_of t k) r e) (eq-eqb r.0 r.0 refl))

  class-at : (n : ℕ) (d : ClassDesc) → n < length t.classes → regs_of t (class_number n) ≡ (get_or t.classes n d).regs
  class-at n d h = go (slice_get_cases t.classes n).1
    where
      go : ((x : ClassDesc) × (n < length t.classes) × (slice_get t.classes n ≡ Some x) × (get_or t.classes n x ≡ x)) ⊎ ((length t.classes ≤ n) × (slice_get t.classes n ≡ None)) → regs_of t (class_number n) ≡ (get_or t.classes n d).regs
      go (inl z) = ap regs_in z.2 ∙ ap (λ (y : ClassDesc). y.regs) (sym (get_or_from_slice_get t.classes n z.0 d z.2))
      go (inr z) = absurd (let y = z.0 in omega arith)

  -- the class at the place of the first that passes a test
  abbrev pub IsFound : (List Reg → Bool) → ClassId → Type 0
  IsFound p k = IsClass t k × (p (regs_of t k) ≡ true)

  pub found-class : (p : List Reg → Bool) (k : ClassId) (q : Option ℕ) → position (λ (d : ClassDesc). p d.regs) t.classes ≡ q → option_map class_number q ≡ Some k → IsFound p k
  found-class p k None e g = absurd (cc)
  found-class p k (Some n) e g = at t.classes refl
    where
      same : (a b : ClassId) → Some a ≡ Some b → a ≡ b
      same a b e = cc

      at : (cs : List ClassDesc) → t.classes ≡ cs → IsFound p k
      at [] h = absurd (let z : position (λ (d : ClassDesc). p d.regs) [] ≡ Some n = ap (position (λ (d : ClassDesc). p d.regs)) (sym h) ∙ e in cc)
      at (d ∷ cs) h =
          let z = position-Some (λ (x : ClassDesc). p x.regs) t.classes n d e in
          subst (IsFound p) (same (class_number n) k g) (z.0, ap p (class-at n d z.0) ∙ z.1)

  pub class-of-widths : (ws : List ℕ) (k : ClassId) → class_of_widths t ws ≡ Some k → IsClass t k × (widths_of t k ≡ ws)
  class-of-widths ws k e =
      let z = found-class (λ rs. same_numbers (class_widths t.units t.regs rs) ws) k (position (λ (d : ClassDesc). same_numbers (class_widths t.units t.regs d.regs) ws) t.classes) refl e in
      (z.0, same-numbers (widths_of t k) ws z.1)

  widths-long : (us : List UnitNumber) → length (widths t.units us) ≡ length us
  widths-long [] = refl
  widths-long (u ∷ us) = ap suc (widths-long us)

  -- a class has a lane
  pub class-long : (k : ClassId) → IsClass t k → 0 < length (widths_of t k)
  class-long k h = go (slice_get t.classes k.0) refl (class-registers t (slice_get t.classes k.0) k.0 refl h)
    where
      units-long : (r : Reg) → nat_lt r.0 (length t.regs) ≡ true → 0 < length (units_of t r)
      units-long r l = at (slice_get_cases t.regs r.0).1
        where
          at : ((x : RegDesc) × (r.0 < length t.regs) × (slice_get t.regs r.0 ≡ Some x) × (get_or t.regs r.0 x ≡ x)) ⊎ ((length t.regs ≤ r.0) × (slice_get t.regs r.0 ≡ None)) → 0 < length (units_of t r)
          at (inl z) =
              let d = all-of (is_reg_desc t.version t.units) z.0 t.regs (slice-member t.regs r.0 z.0 z.2) (are-registers t) in
              let long = ltb-true 0 (length z.0.units) (second_of_both _ _ (first_of_both _ _ (first_of_both _ _ (first_of_both _ _ (first_of_both _ _ d))))) in
              subst (λ q. 0 < length (units_in q)) (sym z.2) long
          at (inr z) = absurd (let y = z.0 in let x = ltb-true r.0 (length t.regs) l in omega arith)

      first : (d : ClassDesc) → is_class_desc t.units t.regs d ≡ true → (rs : List Reg) → d.regs ≡ rs → 0 < length rs → 0 < length (class_widths t.units t.regs rs)
      first d g [] e l = absurd (omega arith)
      first d g (r ∷ rs) e l =
          let all = second_of_both _ _ (first_of_both _ _ (first_of_both _ _ g)) in
          let one = units-long r (all-of (λ (q : Reg). nat_lt q.0 (length t.regs)) r d.regs (subst (Among r) (sym e) here) all) in
          let two = widths-long (units_of t r) in
          omega (arith, one, two)

      go : (q : Option ClassDesc) → slice_get t.classes k.0 ≡ q → 0 < length (regs_in q) → 0 < length (class_widths t.units t.regs (regs_in q))
      go None e l = absurd (omega arith)
      go (Some d) e l = first d (all-of (is_class_desc t.units t.regs) d t.classes (slice-member t.classes k.0 d e) (are-classes t)) d.regs refl l

  moving-widths : (c k : ClassId) (x : Option IndexId) → IsClass t c → move_class t c x ≡ Some k → through_index t c x ≡ widths_of t k
  moving-widths c k None h e = sym (class-of-widths (widths_of t c) k e).1
  moving-widths c k (Some x) h e = go (part_of t c (Some x)) refl e
    where
      go : (q : Option ClassId) → part_of t c (Some x) ≡ q → class_of_widths t (widths_of_some t q) ≡ Some k → through_index t c (Some x) ≡ widths_of t k
      go None g w = absurd (let z = class-of-widths [] k w in let y = class-long k z.0 in let v = ap length z.1 in omega arith)
      go (Some p) g w =
          let z = found-class (λ rs. holds_subs t.regs (lanes_of t x) (regs_of t c) rs) p (position (λ (d : ClassDesc). holds_subs t.regs (lanes_of t x) (regs_of t c) d.regs) t.classes) refl g in
          lying-widths t c p (Some x) h z.1 ∙ sym (class-of-widths (widths_of t p) k w).1

module _ (t : Target) (f : Function) (classes : AreClasses t f) where
  asked-class : (e : Effect) (q : Option Role) (k : ClassId) (o : RegOp) (v : ℕ) → o.loc ≡ Virtual v → class_asked t f.classes q o ≡ Some k → has_lanes t f o ≡ true → in_operand_class t f e (q, operands.Reg o) ≡ true → operand_widths t f o ≡ widths_of t k
  asked-class e None k o v at asks known h = absurd (cc)
  asked-class e (Some q) k o v at asks known h = go (is_any q) refl asks
    where
      through : (c : ClassId) → class_of f v ≡ Some c → (x : Option IndexId) → move_class t c x ≡ Some k → located_widths t f (Virtual v) x ≡ widths_of t k
      through c g None w = ap (widths_of_some t) g ∙ moving-widths t c k None (classes v c g) w
      through c g (Some x) w = ap (λ z. map (slice_index (widths_of_some t z)) (lanes_of t x)) g ∙ moving-widths t c k (Some x) (classes v c g) w

      moving : (z : Option ClassId) → class_of f v ≡ z → moving_class t z o ≡ Some k → located_widths t f (Virtual v) o.index ≡ widths_of t k
      moving None g w = absurd (cc)
      moving (Some c) g w = through c g o.index w

      go : (y : Bool) → is_any q ≡ y → cond y (moving_class t (located_class f.classes o.loc) o) (asked_class q) ≡ Some k → operand_widths t f o ≡ widths_of t k
      go true g w = (λ j. located_widths t f (at j) o.index) ∙ moving (class_of f v) refl (subst (λ l. moving_class t (located_class f.classes l) o ≡ Some k) at w)
      go false g w = bound-class t f classes e q k o v at w known h

  -- the register that stands in for an `undef` use has its widths
  pub stands-wide : (e : Effect) (q : Option Role) (o : RegOp) (v : ℕ) (r : Reg) → o.loc ≡ Virtual v → first_register t (class_asked t f.classes q o) ≡ Some r → has_lanes t f o ≡ true → in_operand_class t f e (q, operands.Reg o) ≡ true → widths t.units (units_of t r) ≡ operand_widths t f o
  stands-wide e q o v r at first known h = go (class_asked t f.classes q o) refl first
    where
      go : (z : Option ClassId) → class_asked t f.classes q o ≡ z → first_register t z ≡ Some r → widths t.units (units_of t r) ≡ operand_widths t f o
      go None g w = absurd (cc)
      go (Some k) g w = first-widths t k r w ∙ sym (asked-class e q k o v at g known h)
