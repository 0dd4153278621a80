-- The class that a role asks of a virtual register has an unreserved register.
use Rattle.std.proofs.Common.{◌≡◌, ◌⊎◌, inl, inr, ◌∷◌, ◌∙◌, ◌&&◌, ◌||◌, ◌<◌, ◌≤◌, not, ℕ, Bool, true, false, cond, get_or, List, Option, Some, None, length, refl, sym, ap, subst, arith, []}
use Rattle.std.specs.Prelude.{find, is_some, option_map, position, slice_get}
use Rattle.std.specs.List.{list_any}
use Rattle.std.proofs.lemmas.Bool.{ltb-true}
use Rattle.std.proofs.lemmas.Option.{get_or_from_slice_get, slice_get_cases}
use Rattle.std.proofs.lemmas.List.Quantifiers.{position-Some}
use Rattle.target_base.specs.declared.types.ClassDesc.{ClassDesc}
use Rattle.target_base.specs.declared.types.ClassId.{ClassId}
use Rattle.target_base.specs.declared.types.Effect.{Effect}
use Rattle.target_base.specs.declared.types.IndexDesc.{IndexDesc}
use Rattle.target_base.specs.declared.types.IndexId.{IndexId}
use Rattle.target_base.specs.declared.types.Reg.{Reg}
use Rattle.target_base.specs.declared.types.RegDesc.{RegDesc}
use Rattle.target_base.specs.declared.types.Role.{Role}
use Rattle.target_base.specs.declared.types.Role.TheVariants as roles
use Rattle.target_base.specs.declared.types.Target.{Target}
use Rattle.target_base.specs.declared.types.Unit.{Unit as UnitNumber}
use Rattle.target_base.specs.Numbers.{class_number}
use Rattle.target_base.specs.Registers.{IsClass, class_of_widths, fits, lanes_in, lanes_of, move_class, part_of, widths_of, widths_of_some}
use Rattle.target_base.specs.Roles.{role_known}
use Rattle.target_base.specs.Rules.{is_complete, is_found, is_reg_desc, part_is_there}
use Rattle.target_base.specs.Storage.{class_widths, holds_subs, is_picked, is_unreserved, lanes_fit, part_place, reg_units, regs_in, same_numbers, sub_place}
use Rattle.target_base.proofs.Lookups.{same_numbers_refl}
use Rattle.target_base.proofs.Sound.{complete_sound}
use Rattle.target_base.proofs.Tests.{first_of_both, position_there, second_of_both}
use Rattle.mir_func.specs.declared.func.Loc.{Loc}
use Rattle.mir_func.specs.declared.func.Loc.TheVariants.{Virtual, Fixed}
use Rattle.mir_func.specs.declared.func.RegOp.{RegOp}
use Rattle.mir_func.specs.declared.func.Operand.TheVariants as operands
use Rattle.mir_func.specs.Value.{Function}
use Rattle.mir_func.specs.Binding.{class_of, is_use, is_virtual, moving_class, tied_number}
use Rattle.mir_meaning.specs.Rules.{fits_at, has_class, index_fits, is_opaque, is_reserved_register}
use Rattle.phi_elim.specs.Phis.{located_class}
use Rattle.two_address.specs.Classes.{class_asked, first_register}
use Rattle.live_laws.proofs.Effects.Blocks.{slice-member}
use Rattle.live_laws.proofs.Effects.Lists.{all-of, any-in}
use Rattle.live_laws.proofs.Effects.Shapes.{class-registers}
use Rattle.live_laws.specs.Effects.Shaped.{AreClasses}
use Rattle.lowering_laws.proofs.Widths.{are-registers, class-of-widths, found-class}

found-first : {X : Type 0} (p : X → Bool) (xs : List X) → list_any p xs ≡ true → (x : X) × (find p xs ≡ Some x)
found-first p [] e = absurd (cc)
found-first {X} p (x ∷ xs) e = go (p x) e (found-first p xs)
  where
    go : (b : Bool) → (b || list_any p xs) ≡ true → (list_any p xs ≡ true → (y : X) × (find p xs ≡ Some y)) → (y : X) × (cond b (Some x) (find p xs) ≡ Some y)
    go true h ih = (x, refl)
    go false h ih = ih h

past-not : (a b : Bool) → (not a || b) ≡ true → a ≡ true → b ≡ true
past-not true b h e = h
past-not false b h e = absurd (cc)

module _ (t : Target) where
  complete : (d : ClassDesc) (k : ℕ) → slice_get t.classes k ≡ Some d → is_complete t.regs t.reserved t.indexes t.classes t.opcodes d ≡ true
  complete d k g =
      all-of (is_complete t.regs t.reserved t.indexes t.classes t.opcodes) d t.classes (slice-member t.classes k d g)
      (complete_sound t.name t.version t.units t.regs t.reserved t.indexes t.classes t.masks t.opcodes t.sound)

  pub first-there : (k : ClassId) → IsClass t k → (r : Reg) × (first_register t (Some k) ≡ Some r)
  first-there k h = go (slice_get t.classes k.0) refl (class-registers t (slice_get t.classes k.0) k.0 refl h)
    where
      go : (q : Option ClassDesc) → slice_get t.classes k.0 ≡ q → 0 < length (regs_in q) → (r : Reg) × (find (is_unreserved t.reserved t.regs) (regs_in q) ≡ Some r)
      go None g l = absurd (omega arith)
      go (Some d) g l = found-first (is_unreserved t.reserved t.regs) d.regs (second_of_both _ _ (first_of_both _ _ (complete d k.0 g)))

  -- some class has the widths of a class
  widths-there : (p : ClassId) → IsClass t p → (k : ClassId) × (class_of_widths t (widths_of t p) ≡ Some k)
  widths-there p h = go (slice_get t.classes p.0) refl (class-registers t (slice_get t.classes p.0) p.0 refl h)
    where
      by : (ws : List ℕ) → list_any (λ (d : ClassDesc). same_numbers (class_widths t.units t.regs d.regs) ws) t.classes ≡ true → (q : Option ℕ) → position (λ (d : ClassDesc). same_numbers (class_widths t.units t.regs d.regs) ws) t.classes ≡ q → (k : ClassId) × (option_map class_number q ≡ Some k)
      by ws some None e = absurd (position_there (λ (d : ClassDesc). same_numbers (class_widths t.units t.regs d.regs) ws) t.classes some e)
      by ws some (Some n) e = (class_number n, refl)

      go : (q : Option ClassDesc) → slice_get t.classes p.0 ≡ q → 0 < length (regs_in q) → (k : ClassId) × (class_of_widths t (class_widths t.units t.regs (regs_in q)) ≡ Some k)
      go None g l = absurd (omega arith)
      go (Some d) g l =
          let ws = class_widths t.units t.regs d.regs in
          by ws (any-in (λ (c : ClassDesc). same_numbers (class_widths t.units t.regs c.regs) ws) d t.classes (slice-member t.classes p.0 d g) (same_numbers_refl ws)) (position (λ (c : ClassDesc). same_numbers (class_widths t.units t.regs c.regs) ws) t.classes) refl

  -- no register has no units
  none-picked : (us : List UnitNumber) (q : Option ℕ) → sub_place t.regs us [] ≡ q → is_some q ≡ true → ⊥
  none-picked us None e h = cc
  none-picked us (Some n) e h = at t.regs refl
    where
      bare : (xs : List UnitNumber) → 0 < length xs → is_picked us [] xs ≡ true → ⊥
      bare [] l g = omega arith
      bare (x ∷ xs) l g = cc

      at : (ds : List RegDesc) → t.regs ≡ ds → ⊥
      at [] g = let z : position (λ (d : RegDesc). is_picked us [] d.units) [] ≡ Some n = ap (position (λ (d : RegDesc). is_picked us [] d.units)) (sym g) ∙ e in cc
      at (d ∷ ds) g = go (slice_get_cases t.regs n).1
        where
          z : (n < length t.regs) × (is_picked us [] (get_or t.regs n d).units ≡ true)
          z = let y = position-Some (λ (x : RegDesc). is_picked us [] x.units) t.regs n d e in (y.0, y.1)

          go : ((x : RegDesc) × (n < length t.regs) × (slice_get t.regs n ≡ Some x) × (get_or t.regs n x ≡ x)) ⊎ ((length t.regs ≤ n) × (slice_get t.regs n ≡ None)) → ⊥
          go (inl w) =
              let same = get_or_from_slice_get t.regs n w.0 d w.2 in
              let r = all-of (is_reg_desc t.version t.units) w.0 t.regs (slice-member t.regs n w.0 w.2) (are-registers t) in
              let long = ltb-true 0 (length w.0.units) (second_of_both _ _ (first_of_both _ _ (first_of_both _ _ (first_of_both _ _ (first_of_both _ _ r))))) in
              bare w.0.units long (subst (λ (x : RegDesc). is_picked us [] x.units ≡ true) same z.1)
          go (inr w) = let y = w.0 in let x = z.0 in omega arith

  -- a class has a part for each index that fits
  part-there : (c : ClassId) (x : IndexId) → IsClass t c → fits t c (Some x) ≡ true → (p : ClassId) × IsClass t p × (part_of t c (Some x) ≡ Some p)
  part-there c x h fit = go (slice_get t.classes c.0) refl (class-registers t (slice_get t.classes c.0) c.0 refl h) fit
    where
      none : (rs : List Reg) → 0 < length rs → lanes_fit t.regs [] rs ≡ true → ⊥
      none [] l e = omega arith
      none (r ∷ rs) l e = none-picked (reg_units t.regs r) (sub_place t.regs (reg_units t.regs r) []) refl (first_of_both (is_some (sub_place t.regs (reg_units t.regs r) [])) (lanes_fit t.regs [] rs) e)

      at : (ls : List ℕ) (rs : List Reg) (q : Option ℕ) → part_place t.regs t.classes ls rs ≡ q → is_found q ≡ true → (p : ClassId) × IsClass t p × (option_map class_number q ≡ Some p)
      at ls rs None e f = absurd (cc)
      at ls rs (Some n) e f = (class_number n, (found-class t (λ (ps : List Reg). holds_subs t.regs ls rs ps) (class_number n) (Some n) e refl).0, refl)

      by : (d : ClassDesc) → slice_get t.classes c.0 ≡ Some d → 0 < length d.regs → (i : Option IndexDesc) → slice_get t.indexes x.0 ≡ i → (ls : List ℕ) → lanes_of t x ≡ ls → lanes_fit t.regs ls d.regs ≡ true → (p : ClassId) × IsClass t p × (option_map class_number (part_place t.regs t.classes ls d.regs) ≡ Some p)
      by d g l None i ls are e = absurd (let w : ls ≡ [] = sym are ∙ ap lanes_in i in none d.regs l (subst (λ ks. lanes_fit t.regs ks d.regs ≡ true) w e))
      by d g l (Some i) there' ls are e =
          let same : i.lanes ≡ ls = sym (ap lanes_in there') ∙ are in
          let all = second_of_both _ _ (complete d c.0 g) in
          let one : part_is_there t.regs t.classes d.regs i ≡ true = all-of (part_is_there t.regs t.classes d.regs) i t.indexes (slice-member t.indexes x.0 i there') all in
          let found = past-not (lanes_fit t.regs i.lanes d.regs) (is_found (part_place t.regs t.classes i.lanes d.regs)) one (subst (λ ks. lanes_fit t.regs ks d.regs ≡ true) (sym same) e) in
          at ls d.regs (part_place t.regs t.classes ls d.regs) refl (subst (λ ks. is_found (part_place t.regs t.classes ks d.regs) ≡ true) same found)

      go : (q : Option ClassDesc) → slice_get t.classes c.0 ≡ q → 0 < length (regs_in q) → lanes_fit t.regs (lanes_of t x) (regs_in q) ≡ true → (p : ClassId) × IsClass t p × (option_map class_number (part_place t.regs t.classes (lanes_of t x) (regs_in q)) ≡ Some p)
      go None g l e = absurd (omega arith)
      go (Some d) g l e = by d g l (slice_get t.indexes x.0) refl (lanes_of t x) refl e

  moving-there : (c : ClassId) (x : Option IndexId) → IsClass t c → fits t c x ≡ true → (k : ClassId) × (move_class t c x ≡ Some k)
  moving-there c None h e = widths-there c h
  moving-there c (Some x) h e =
      let z = part-there c x h e in
      let y = widths-there z.0 z.1 in
      (y.0, ap (λ q. class_of_widths t (widths_of_some t q)) z.2 ∙ y.1)

  moved-class : (c k : ClassId) (x : Option IndexId) → move_class t c x ≡ Some k → IsClass t k
  moved-class c k x e = (class-of-widths t (widths_of_some t (part_of t c x)) k e).0

-- the register that stands in for an `undef` use

pub not-either : (b : Bool) → (false || (b && false)) ≡ true → ⊥
not-either true e = cc
not-either false e = cc

module _ (t : Target) (f : Function) (classes : AreClasses t f) where
  -- its class
  abbrev Asked : Role → RegOp → Type 0
  Asked r o = (k : ClassId) × IsClass t k × (class_asked t f.classes (Some r) o ≡ Some k)

  any-asked : (o : RegOp) (v : ℕ) → o.loc ≡ Virtual v → has_class f o.loc ≡ true → index_fits t f o.loc o.index ≡ true → Asked roles.Any o
  any-asked o v at has fit = go (class_of f v) refl (subst (λ l. has_class f l ≡ true) at has) (subst (λ l. index_fits t f l o.index ≡ true) at fit)
    where
      go : (q : Option ClassId) → class_of f v ≡ q → is_some q ≡ true → elim q as (λ q. Bool) [ None ↦ true | Some c ↦ fits t c o.index ] ≡ true → Asked roles.Any o
      go None g h e = absurd (cc)
      go (Some c) g h e =
          let z = moving-there t c o.index (classes v c g) e in
          (z.0, moved-class t c z.0 o.index z.1, (λ k. moving_class t (located_class f.classes (at k)) o) ∙ (ap (λ q. moving_class t q o) g ∙ z.1))

  role-asked : (e : Effect) (r : Role) (o : RegOp) (v : ℕ) → o.loc ≡ Virtual v → o.def ≡ false → tied_number r ≡ None → fits_at t e r (operands.Reg o) ≡ true → role_known (length t.classes) (length t.regs) r ≡ true → has_class f o.loc ≡ true → index_fits t f o.loc o.index ≡ true → Asked r o
  role-asked e (roles.Def k) o v at def free fit known has index = (k, ltb-true k.0 (length t.classes) known, refl)
  role-asked e (roles.Early k) o v at def free fit known has index = (k, ltb-true k.0 (length t.classes) known, refl)
  role-asked e (roles.Read k) o v at def free fit known has index = (k, ltb-true k.0 (length t.classes) known, refl)
  role-asked e (roles.Tied k n) o v at def free fit known has index = absurd (cc)
  role-asked e (roles.Address k) o v at def free fit known has index = (k, ltb-true k.0 (length t.classes) known, refl)
  role-asked e (roles.Value (Some k)) o v at def free fit known has index = (k, ltb-true k.0 (length t.classes) known, refl)
  role-asked e (roles.Value None) o v at def free fit known has index = absurd (go (is_opaque e) (is_use o) (subst (λ l. (false || (is_opaque e && (is_use o && is_reserved_register t l))) ≡ true) at fit))
    where
      go : (a b : Bool) → (false || (a && (b && false))) ≡ true → ⊥
      go true true h = cc
      go true false h = cc
      go false b h = cc
  role-asked e roles.Any o v at def free fit known has index = any-asked o v at has index
  role-asked e roles.Rest o v at def free fit known has index = absurd (go (is_use o) (is_opaque e) (subst (λ l. ((is_use o && not (is_virtual l)) || (is_opaque e && false)) ≡ true) at fit))
    where
      go : (a b : Bool) → ((a && false) || (b && false)) ≡ true → ⊥
      go true true h = cc
      go true false h = cc
      go false true h = cc
      go false false h = cc
  role-asked e r o v at def free fit known has index = absurd (not-either (is_opaque e) fit)

  pub register-asked : (e : Effect) (r : Role) (o : RegOp) → is_virtual o.loc ≡ true → o.def ≡ false → tied_number r ≡ None → fits_at t e r (operands.Reg o) ≡ true → role_known (length t.classes) (length t.regs) r ≡ true → has_class f o.loc ≡ true → index_fits t f o.loc o.index ≡ true → (p : Reg) × (first_register t (class_asked t f.classes (Some r) o) ≡ Some p)
  register-asked e r o virtual def free fit known has index = by o.loc refl virtual
    where
      by : (l : Loc) → o.loc ≡ l → is_virtual l ≡ true → (p : Reg) × (first_register t (class_asked t f.classes (Some r) o) ≡ Some p)
      by (Virtual v) at h = let z = role-asked e r o v at def free fit known has index in let y = first-there t z.0 z.1 in (y.0, ap (first_register t) z.2 ∙ y.1)
      by (Fixed q) at h = absurd (cc)
