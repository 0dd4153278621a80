-- Each virtual register that an operand may name has lanes.
use Rattle.std.proofs.Common.{◌≡◌, ◌⊎◌, inl, inr, ◌<◌, ◌≤◌, ℕ, suc, true, List, [], ◌∷◌, Option, Some, None, length, get_or, refl, sym, ap, subst, eqb-true, arith}
use Rattle.std.specs.Prelude.{slice_get, nat_lt, is_some}
use Rattle.std.specs.List.{list_all}
use Rattle.std.proofs.lemmas.Bool.{ltb-true}
use Rattle.std.proofs.lemmas.Option.{slice_get_within, slice_get_cases, get_or_from_slice_get}
use Rattle.std.proofs.lemmas.List.Quantifiers.{position-Some}
use Rattle.target_base.specs.declared.types.ClassId.{ClassId}
use Rattle.target_base.specs.declared.types.ClassDesc.{ClassDesc}
use Rattle.target_base.specs.declared.types.IndexId.{IndexId}
use Rattle.target_base.specs.declared.types.Reg.{Reg}
use Rattle.target_base.specs.declared.types.RegDesc.{RegDesc}
use Rattle.target_base.specs.declared.types.Unit.{Unit as UnitNumber}
use Rattle.target_base.specs.declared.types.Target.{Target}
use Rattle.target_base.specs.Registers.{lanes_of, regs_of, widths_of, widths_of_some, fits, IsClass}
use Rattle.target_base.specs.Storage.{is_picked, sub_place, lanes_fit, class_widths, widths, reg_units, regs_in, units_in}
use Rattle.target_base.specs.Rules.{is_class_desc, is_reg_desc}
use Rattle.target_base.proofs.Tests.{first_of_both, second_of_both, each_passes, position_within}
use Rattle.target_base.proofs.Sound.{classes_sound, regs_sound}
use Rattle.meaning.specs.declared.types.Lane.TheVariants.{VirtualLane}
use Rattle.meaning.specs.Live.{Among as Member, here as first}
use Rattle.mir_func.specs.declared.func.Loc.{Loc}
use Rattle.mir_func.specs.declared.func.Loc.TheVariants.{Virtual, Fixed}
use Rattle.mir_func.specs.Value.{Function}
use Rattle.mir_func.specs.Binding.{class_of}
use Rattle.mir_meaning.specs.Registers.{numbers, range_widths, located_lanes}
use Rattle.mir_meaning.specs.Points.{is_range}
use Rattle.mir_meaning.specs.Rules.{has_class, index_fits}
use Rattle.instr_effects.proofs.Members.{map-in}
use Rattle.live_laws.specs.Effects.Shaped.{AreClasses}
use Rattle.live_laws.proofs.Effects.Shapes.{class-registers, numbers-in}

module _ (t : Target) where
  register-units : (k : ℕ) (d : RegDesc) → slice_get t.regs k ≡ Some d → 0 < length d.units
  register-units k d e =
      let all = second_of_both _ _ (first_of_both _ _ (regs_sound t.name t.version t.units t.regs t.reserved t.indexes t.classes t.masks t.opcodes t.sound)) in
      let p = each_passes (is_reg_desc t.version t.units) t.regs k d (slice_get_within t.regs k d e) all in
      let r = rw (get_or_from_slice_get t.regs k d d e) at p in
      ltb-true _ _ (second_of_both _ _ (first_of_both _ _ (first_of_both _ _ (first_of_both _ _ (first_of_both _ _ r)))))

  class-known : (q : Option ClassDesc) (k : ℕ) → slice_get t.classes k ≡ q → list_all (λ r. nat_lt r.0 (length t.regs)) (regs_in q) ≡ true
  class-known None k e = refl
  class-known (Some d) k e =
      let all = second_of_both _ _ (first_of_both _ _ (classes_sound t.name t.version t.units t.regs t.reserved t.indexes t.classes t.masks t.opcodes t.sound)) in
      let p = each_passes (is_class_desc t.units t.regs) t.classes k d (slice_get_within t.classes k d e) all in
      let c = rw (get_or_from_slice_get t.classes k d d e) at p in
      second_of_both _ _ (first_of_both _ _ (first_of_both _ _ c))

  known-units : (r : Reg) → r.0 < length t.regs → 0 < length (reg_units t.regs r)
  known-units r h = go (slice_get t.regs r.0) refl
    where
      past : ((x : RegDesc) × (r.0 < length t.regs) × (slice_get t.regs r.0 ≡ Some x) × (get_or t.regs r.0 x ≡ x)) ⊎ ((length t.regs ≤ r.0) × (slice_get t.regs r.0 ≡ None)) → slice_get t.regs r.0 ≡ None → ⊥
      past (inl z) e = let g = z.2 in cc
      past (inr z) e = let g = z.0 in omega arith

      go : (q : Option RegDesc) → slice_get t.regs r.0 ≡ q → 0 < length (units_in q)
      go None e = absurd (past (slice_get_cases t.regs r.0).1 e)
      go (Some d) e = register-units r.0 d e

  widths-long : (us : List UnitNumber) → length (widths t.units us) ≡ length us
  widths-long [] = refl
  widths-long (u ∷ us) = ap (λ n. suc n) (widths-long us)

  class-lanes : (c : ClassId) → IsClass t c → 0 < length (widths_of t c)
  class-lanes c h = go (regs_of t c) (class-registers t (slice_get t.classes c.0) c.0 refl h) (class-known (slice_get t.classes c.0) c.0 refl)
    where
      go : (rs : List Reg) → 0 < length rs → list_all (λ r. nat_lt r.0 (length t.regs)) rs ≡ true → 0 < length (class_widths t.units t.regs rs)
      go [] h g = absurd (omega arith)
      go (r ∷ rs) h g = let k = known-units r (ltb-true r.0 (length t.regs) (first_of_both _ _ g)) in omega (arith, k, widths-long (reg_units t.regs r))

  picked-some : (us : List UnitNumber) (ks : List ℕ) (ps : List UnitNumber) → is_picked us ks ps ≡ true → 0 < length ps → 0 < length ks
  picked-some us ks [] e h = absurd (omega arith)
  picked-some us [] (p ∷ ps) e h = absurd (cc)
  picked-some us (k ∷ ks) (p ∷ ps) e h = omega arith

  placed-some : (us : List UnitNumber) (ks : List ℕ) (q : Option ℕ) → sub_place t.regs us ks ≡ q → is_some q ≡ true → 0 < length ks
  placed-some us ks None e h = absurd (cc)
  placed-some us ks (Some n) e h = at (slice_get_cases t.regs n).1
    where
      at : ((x : RegDesc) × (n < length t.regs) × (slice_get t.regs n ≡ Some x) × (get_or t.regs n x ≡ x)) ⊎ ((length t.regs ≤ n) × (slice_get t.regs n ≡ None)) → 0 < length ks
      at (inl z) =
          let found = position-Some (λ d. is_picked us ks d.units) t.regs n z.0 e in
          picked-some us ks z.0.units (subst (λ d. is_picked us ks d.units ≡ true) z.3 found.1) (register-units n z.0 z.2)
      at (inr z) = absurd (let g : n < length t.regs = position_within (λ d. is_picked us ks d.units) t.regs n e in omega (arith, z.0))

  index-some : (c : ClassId) (x : IndexId) → IsClass t c → fits t c (Some x) ≡ true → 0 < length (lanes_of t x)
  index-some c x h e = go (regs_of t c) (class-registers t (slice_get t.classes c.0) c.0 refl h) e
    where
      go : (rs : List Reg) → 0 < length rs → lanes_fit t.regs (lanes_of t x) rs ≡ true → 0 < length (lanes_of t x)
      go [] h e = absurd (omega arith)
      go (r ∷ rs) h e = placed-some (reg_units t.regs r) (lanes_of t x) (sub_place t.regs (reg_units t.regs r) (lanes_of t x)) refl (first_of_both _ _ e)

first-of : (ks : List ℕ) → 0 < length ks → (k : ℕ) × Member k ks
first-of [] h = absurd (omega arith)
first-of (k ∷ ks) h = (k, first)

-- a virtual register has a lane at an index that fits
pub lane-there : (t : Target) (f : Function) (v : ℕ) (l : Loc) (x : Option IndexId) → AreClasses t f → is_range v l ≡ true → has_class f l ≡ true → index_fits t f l x ≡ true → (k : ℕ) × Member (VirtualLane v k) (located_lanes t f l x)
lane-there t f v (Fixed r) x classes e h g = absurd (cc)
lane-there t f v (Virtual w) x classes e h g = subst (λ u. (k : ℕ) × Member (VirtualLane u k) (located_lanes t f (Virtual w) x)) (sym (eqb-true v w e)) (at x (class_of f w) refl h g)
  where
    at : (x : Option IndexId) (q : Option ClassId) → class_of f w ≡ q → is_some q ≡ true → elim q [ None ↦ true | Some c ↦ fits t c x ] ≡ true → (k : ℕ) × Member (VirtualLane w k) (located_lanes t f (Virtual w) x)
    at x None n h g = absurd (cc)
    at None (Some c) n h g =
        let some : 0 < length (range_widths t f w) = subst (λ q. 0 < length (widths_of_some t q)) (sym n) (class-lanes t c (classes w c n)) in
        (0, map-in (VirtualLane w) 0 (numbers 0 (length (range_widths t f w))) (numbers-in 0 0 (length (range_widths t f w)) (omega arith) (omega arith)))
    at (Some i) (Some c) n h g = let z = first-of (lanes_of t i) (index-some t c i (classes w c n) g) in (z.0, map-in (VirtualLane w) z.0 (lanes_of t i) z.1)
