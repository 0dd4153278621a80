-- Lists of lanes that are given sources: which lanes are written, early or late, and with what.
use Rattle.std.proofs.Common.{◌≡◌, ◌<◌, ◌∷◌, ◌++◌, ◌||◌, ◌∙◌, ℕ, zero, suc, Bool, true, false, cond, List, Option, Some, None, length, map, refl, sym, ap, subst, arith, eqb-true, []}
use Rattle.std.proofs.lemmas.Bool.{ltb-true}
use Rattle.std.specs.Prelude.{nat_eq, nat_lt, slice_get}
use Rattle.std.specs.List.{list_all}
use Rattle.target_base.specs.declared.types.ClassId.{ClassId}
use Rattle.target_base.specs.declared.types.Reg.{Reg}
use Rattle.target_base.specs.declared.types.RegDesc.{RegDesc}
use Rattle.target_base.specs.declared.types.Unit.{Unit as UnitNumber}
use Rattle.target_base.specs.declared.types.UnitDesc.{UnitDesc}
use Rattle.target_base.specs.declared.types.Target.{Target}
use Rattle.target_base.specs.Registers.{regs_of, units_of, widths_of}
use Rattle.target_base.specs.Rules.{is_reg_desc}
use Rattle.target_base.specs.Storage.{class_units, unit_width, units_in, width_in, widths}
use Rattle.target_base.proofs.Sound.{regs_sound}
use Rattle.target_base.proofs.Tests.{first_of_both, second_of_both}
use Rattle.meaning.specs.Lanes.{filled, same_lane}
use Rattle.meaning.specs.Live.{Among as Member, here as first, there as later}
use Rattle.meaning.specs.declared.types.Fill.TheVariants.{Moved}
use Rattle.meaning.specs.declared.types.Lane.{Lane}
use Rattle.meaning.specs.declared.types.Lane.TheVariants.{SlotLane}
use Rattle.meaning.specs.declared.types.Source.{Source}
use Rattle.meaning.specs.declared.types.Source.TheVariants.{FromLane, Undef}
use Rattle.meaning.specs.declared.types.Write.{Write}
use Rattle.laws.proofs.Quiet.{same-refl}
use Rattle.mir_meaning.specs.Items.{at_all_widths, moved, undefined, widths_once}
use Rattle.mir_meaning.specs.Registers.{has_number}
use Rattle.instr_effects.proofs.Members.{flat-in, flat-of, left-in, map-in, map-of, member-elim, member-none, right-in}
use Rattle.live_laws.proofs.Effects.Blocks.{slice-member}
use Rattle.live_laws.proofs.Effects.Lists.{all-of}
use Rattle.lowering_laws.proofs.Traced.{is_written}

pub moved-early : (e : Bool) (ls : List Lane) (ss : List Source) (w : Write) → Member w (moved e ls ss) → w.early ≡ e
moved-early e [] ss w m = absurd (member-none w m)
moved-early e (l ∷ ls) [] w m = absurd (member-none w m)
moved-early e (l ∷ ls) (q ∷ ss) w m = member-elim w _ (moved e ls ss) (λ k. ap (λ (y : Write). y.early) k) (λ k. moved-early e ls ss w k) m

pub undefined-early : (e : Bool) (ls : List Lane) (w : Write) → Member w (undefined e ls) → w.early ≡ e
undefined-early e ls w m = let z = map-of _ w ls m in ap (λ (y : Write). y.early) z.2

pub undefined-in : (e : Bool) (ls : List Lane) (a : Lane) → Member a ls → filled (undefined e ls) a ≡ Moved Undef
undefined-in e [] a m = absurd (member-none a m)
undefined-in e (l ∷ ls) a m =
    member-elim a l ls
    (λ k. ap (λ b. cond b (Moved Undef) (filled (undefined e ls) a)) (ap (λ c. same_lane c a) (sym k) ∙ same-refl a))
    (λ k. go (same_lane l a) (undefined-in e ls a k)) m
  where
    go : (b : Bool) → filled (undefined e ls) a ≡ Moved Undef → cond b (Moved Undef) (filled (undefined e ls) a) ≡ Moved Undef
    go true h = refl
    go false h = h

pub undefined-fill : (e : Bool) (ls : List Lane) (a l : Lane) → filled (undefined e ls) a ≡ Moved (FromLane l) → l ≡ a
undefined-fill e [] a l h = inner a l h
  where
    inner : (a l : Lane) → Moved (FromLane a) ≡ Moved (FromLane l) → l ≡ a
    inner a l h = cc
undefined-fill e (x ∷ ls) a l h = go (same_lane x a) h (undefined-fill e ls a l)
  where
    go : (b : Bool) → cond b (Moved Undef) (filled (undefined e ls) a) ≡ Moved (FromLane l) → (filled (undefined e ls) a ≡ Moved (FromLane l) → l ≡ a) → l ≡ a
    go true h ih = absurd (cc)
    go false h ih = ih h

-- a lane that is written holds one of the sources
pub moved-out : (e : Bool) (ls : List Lane) (ss : List Source) (a l : Lane) → is_written (moved e ls ss) a ≡ true → filled (moved e ls ss) a ≡ Moved (FromLane l) → Member (FromLane l) ss
moved-out e [] ss a l w h = absurd (cc)
moved-out e (x ∷ ls) [] a l w h = absurd (cc)
moved-out e (x ∷ ls) (q ∷ ss) a l w h = go (same_lane x a) w h (moved-out e ls ss a l)
  where
    inner : (p r : Source) → Moved p ≡ Moved r → p ≡ r
    inner p r k = cc

    go : (b : Bool) → (b || is_written (moved e ls ss) a) ≡ true → cond b (Moved q) (filled (moved e ls ss) a) ≡ Moved (FromLane l) → (is_written (moved e ls ss) a ≡ true → filled (moved e ls ss) a ≡ Moved (FromLane l) → Member (FromLane l) ss) → Member (FromLane l) (q ∷ ss)
    go true w h ih = subst (λ y. Member y (q ∷ ss)) (inner q (FromLane l) h) first
    go false w h ih = later (ih w h)

-- a lane of a slot at one of the widths at which stores write, and such lanes alone
pub all-widths-in : (t : Target) (n : ℕ) (ks : List ℕ) (k w : ℕ) → Member k ks → Member w (widths_once [] t.units) → Member (SlotLane n k w) (at_all_widths t n ks)
all-widths-in t n ks k w m h = flat-in (λ j. map (λ x. SlotLane n j x) (widths_once [] t.units)) (SlotLane n k w) k ks m (map-in (λ x. SlotLane n k x) w (widths_once [] t.units) h)

pub all-widths-of : (t : Target) (n : ℕ) (ks : List ℕ) (a : Lane) → Member a (at_all_widths t n ks) → (k : ℕ) × (w : ℕ) × Member k ks × Member w (widths_once [] t.units) × (a ≡ SlotLane n k w)
all-widths-of t n ks a m =
    let z = flat-of (λ j. map (λ x. SlotLane n j x) (widths_once [] t.units)) a ks m in
    let y = map-of (λ x. SlotLane n z.0 x) a (widths_once [] t.units) z.2 in
    (z.0, y.0, z.1, y.1, y.2)

-- the widths of a class's lanes are widths of units

known-kept : (y : ℕ) (known : List ℕ) (ds : List UnitDesc) → Member y known → Member y (widths_once known ds)
known-kept y known [] m = m
known-kept y known (d ∷ ds) m = known-kept y (cond (has_number known d.width) known (known ++ (d.width ∷ []))) ds (more (has_number known d.width))
  where
    more : (b : Bool) → Member y (cond b known (known ++ (d.width ∷ [])))
    more true = m
    more false = left-in y known (d.width ∷ []) m

number-there : (n : ℕ) (ns : List ℕ) → has_number ns n ≡ true → Member n ns
number-there n [] e = absurd (cc)
number-there n (k ∷ ns) e = go (nat_eq n k) refl e (number-there n ns)
  where
    go : (b : Bool) → nat_eq n k ≡ b → (b || has_number ns n) ≡ true → (has_number ns n ≡ true → Member n ns) → Member n (k ∷ ns)
    go true g h ih = subst (λ z. Member n (z ∷ ns)) (eqb-true n k g) first
    go false g h ih = later (ih h)

unit-once : (d : UnitDesc) (known : List ℕ) (ds : List UnitDesc) → Member d ds → Member d.width (widths_once known ds)
unit-once d known [] m = absurd (member-none d m)
unit-once d known (x ∷ ds) m =
    member-elim d x ds
    (λ e. subst (λ (y : UnitDesc). Member y.width (widths_once known (x ∷ ds))) (sym e) (known-kept x.width (cond (has_number known x.width) known (known ++ (x.width ∷ []))) ds (listed (has_number known x.width) refl)))
    (λ k. unit-once d (cond (has_number known x.width) known (known ++ (x.width ∷ []))) ds k) m
  where
    listed : (b : Bool) → has_number known x.width ≡ b → Member x.width (cond b known (known ++ (x.width ∷ [])))
    listed true g = number-there x.width known g
    listed false g = right-in x.width known (x.width ∷ []) first

get-there : {X : Type 0} (xs : List X) (k : ℕ) → k < length xs → (x : X) × (slice_get xs k ≡ Some x)
get-there [] k h = absurd (omega arith)
get-there (x ∷ xs) zero h = (x, refl)
get-there (x ∷ xs) (suc k) h = get-there xs k (omega arith)

module _ (t : Target) where
  unit-wide : (u : UnitNumber) → u.0 < length t.units → Member (unit_width t.units u) (widths_once [] t.units)
  unit-wide u h =
      let z = get-there t.units u.0 h in
      subst (λ w. Member w (widths_once [] t.units)) (sym (ap width_in z.1)) (unit-once z.0 [] t.units (slice-member t.units u.0 z.0 z.1))

  reg-units : (d : RegDesc) → Member d t.regs → (u : UnitNumber) → Member u d.units → u.0 < length t.units
  reg-units d m u k =
      let all = regs_sound t.name t.version t.units t.regs t.reserved t.indexes t.classes t.masks t.opcodes t.sound in
      let one : is_reg_desc t.version t.units d ≡ true = all-of (is_reg_desc t.version t.units) d t.regs m (second_of_both _ _ (first_of_both _ _ all)) in
      let inside : list_all (λ (v : UnitNumber). nat_lt v.0 (length t.units)) d.units ≡ true = second_of_both _ _ (first_of_both _ _ (first_of_both _ _ one)) in
      ltb-true u.0 (length t.units) (all-of (λ (v : UnitNumber). nat_lt v.0 (length t.units)) u d.units k inside)

  pub class-wide : (c : ClassId) (w : ℕ) → Member w (widths_of t c) → Member w (widths_once [] t.units)
  class-wide c w m = let z = map-of (unit_width t.units) w (class_units t.regs (regs_of t c)) m in subst (λ y. Member y (widths_once [] t.units)) (sym z.2) (by (regs_of t c) z.0 z.1)
    where
      inside : (q : Option RegDesc) → ((d : RegDesc) → q ≡ Some d → Member d t.regs) → (u : UnitNumber) → Member u (units_in q) → Member (unit_width t.units u) (widths_once [] t.units)
      inside None h u k = absurd (member-none u k)
      inside (Some d) h u k = unit-wide u (reg-units d (h d refl) u k)

      by : (rs : List Reg) (u : UnitNumber) → Member u (class_units t.regs rs) → Member (unit_width t.units u) (widths_once [] t.units)
      by [] u k = absurd (member-none u k)
      by (r ∷ rs) u k = inside (slice_get t.regs r.0) (λ d e. slice-member t.regs r.0 d e) u k

  -- and those of a register's
  pub reg-wide : (r : Reg) (w : ℕ) → Member w (widths t.units (units_of t r)) → Member w (widths_once [] t.units)
  reg-wide r w m = let z = map-of (unit_width t.units) w (units_of t r) m in subst (λ y. Member y (widths_once [] t.units)) (sym z.2) (by (slice_get t.regs r.0) (λ d e. slice-member t.regs r.0 d e) z.0 z.1)
    where
      by : (q : Option RegDesc) → ((d : RegDesc) → q ≡ Some d → Member d t.regs) → (u : UnitNumber) → Member u (units_in q) → Member (unit_width t.units u) (widths_once [] t.units)
      by None h u k = absurd (member-none u k)
      by (Some d) h u k = unit-wide u (reg-units d (h d refl) u k)
