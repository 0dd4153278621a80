-- What a range finds in the way at a point, by computing.
use Rattle.std.proofs.Common.{◌≡◌, ◌≢◌, ◌&&◌, ◌||◌, ⊎_elim, not, ℕ, Bool, true, false, List, Option, Some, None, refl, sym, ap, subst, inl, inr, nat_eq}
use Rattle.std.specs.Prelude.{slice_get}
use Rattle.std.proofs.lemmas.Bool.{eq-eqb, eqb-true}
use Rattle.std.specs.List.{list_any}
use Rattle.target_base.specs.declared.types.Unit.{Unit as UnitNumber}
use Rattle.target_base.specs.declared.types.Reg.{Reg}
use Rattle.target_base.specs.declared.types.Target.{Target}
use Rattle.target_base.specs.Registers.{units_of}
use Rattle.target_base.specs.Storage.{is_unit}
use Rattle.meaning.specs.declared.types.Lane.{Lane}
use Rattle.meaning.specs.declared.types.Lane.TheVariants.{SlotLane, UnitLane, VirtualLane}
use Rattle.mir_func.specs.Value.{Function}
use Rattle.mir_meaning.specs.Points.{HeldIn, OccupiedAt, Point, Tests}
use Rattle.laws.proofs.Flow.{bool_cases}
use Rattle.laws.proofs.Following.{both-true}
use Rattle.laws.proofs.Tables.{or-true}
use Rattle.laws.specs.Tables.{lists}
use Rattle.worked_examples.proofs.MachineCodeLemmas.Everywhere.{is_computed, occupied_at, occupied_lanes, or_left, or_right, some_decided}
use Rattle.split_choose.specs.Offers.{HeldByOthers}

same_unit : (o : Option UnitNumber) (u : UnitNumber) → is_unit o u ≡ true → o ≡ Some u
same_unit None u e = absurd (cc)
same_unit (Some w) u e = ap (λ n. Some (record { 0 = n })) (eqb-true w.0 u.0 e)

unit_same : (o : Option UnitNumber) (u : UnitNumber) → o ≡ Some u → is_unit o u ≡ true
unit_same o u e = subst (λ x. is_unit x u ≡ true) (sym e) (eq-eqb u.0 u.0 refl)

-- lane k of a register is the unit
abbrev lies_in : Target → Option (Option Reg) → ℕ → UnitNumber → Bool
lies_in t (Some (Some q)) k u = is_unit (slice_get (units_of t q) k) u
lies_in t _ k u = false

-- the lane is one of another range that lies in the unit
abbrev pub is_in_unit : Target → List (Option Reg) → ℕ → UnitNumber → Lane → Bool
is_in_unit t registers v u (VirtualLane w k) = not (nat_eq w v) && lies_in t (slice_get registers w) k u
is_in_unit t registers v u _ = false

different : (w v : ℕ) → not (nat_eq w v) ≡ true → w ≢ v
different w v e q = let x : not true ≡ true = subst (λ b. not b ≡ true) (eq-eqb w v q) e in absurd (cc)

is_different : (w v : ℕ) (b : Bool) → nat_eq w v ≡ b → w ≢ v → not b ≡ true
is_different w v true e n = absurd (n (eqb-true w v e))
is_different w v false e n = refl

both : (a b : Bool) → a ≡ true → b ≡ true → a && b ≡ true
both true true e h = refl
both true false e h = h
both false b e h = e

module _ (t : Target) (f : Function) (n m : ℕ) (computed : is_computed t f n m ≡ true) (registers : List (Option Reg)) (v : ℕ) where
  abbrev Other : UnitNumber × Point → Type 0
  Other p = (w : ℕ) × (q : Reg) × (w ≢ v) × (slice_get registers w ≡ Some (Some q)) × HeldIn t f w q p.1 p.0

  abbrev pub held_test : UnitNumber × Point → Bool
  held_test p = lists (occupied_lanes t f n m p.1) (UnitLane p.0.0) || list_any (is_in_unit t registers v p.0) (occupied_lanes t f n m p.1)

  lies : (o : Option (Option Reg)) (k : ℕ) (u : UnitNumber) → lies_in t o k u ≡ true → (q : Reg) × (o ≡ Some (Some q)) × (slice_get (units_of t q) k ≡ Some u)
  lies None k u e = absurd (cc)
  lies (Some None) k u e = absurd (cc)
  lies (Some (Some q)) k u e = (q, refl, same_unit (slice_get (units_of t q) k) u e)

  other_of : (p : UnitNumber × Point) (l : Lane) → OccupiedAt t f p.1 l → is_in_unit t registers v p.0 l ≡ true → Other p
  other_of p (VirtualLane w k) o e =
      let b = both-true (not (nat_eq w v)) (lies_in t (slice_get registers w) k p.0) e in
      let x = lies (slice_get registers w) k p.0 b.1 in
      (w, x.0, different w v b.0, x.1, record { k = k; occupied = o; unit = x.2 })
  other_of p (UnitLane u) o e = absurd (cc)
  other_of p (SlotLane s k w) o e = absurd (cc)

  of_other : (p : UnitNumber × Point) (x : Other p) → is_in_unit t registers v p.0 (VirtualLane x.0 x.4.k) ≡ true
  of_other p x =
      both (not (nat_eq x.0 v)) (lies_in t (slice_get registers x.0) x.4.k p.0) (is_different x.0 v (nat_eq x.0 v) refl x.2)
      (subst (λ o. lies_in t o x.4.k p.0 ≡ true) (sym x.3) (unit_same (slice_get (units_of t x.1) x.4.k) p.0 x.4.unit))

  pub held_by_others : Tests (HeldByOthers t f registers v) held_test
  held_by_others p = (forth, back)
    where
      forth : held_test p ≡ true → HeldByOthers t f registers v p
      forth e =
          ⊎_elim (λ h. inl ((occupied_at t f n m computed p.1 (UnitLane p.0.0)).0 h))
          (λ h. inr (shown ((some_decided (is_in_unit t registers v p.0) (occupied_lanes t f n m p.1) (OccupiedAt t f p.1) (occupied_at t f n m computed p.1)).0 (or-true (lists (occupied_lanes t f n m p.1) (UnitLane p.0.0)) (list_any (is_in_unit t registers v p.0) (occupied_lanes t f n m p.1)) e h))))
          (bool_cases (lists (occupied_lanes t f n m p.1) (UnitLane p.0.0)))
        where
          shown : (l : Lane) × OccupiedAt t f p.1 l × (is_in_unit t registers v p.0 l ≡ true) → Other p
          shown x = other_of p x.0 x.1 x.2

      back : HeldByOthers t f registers v p → held_test p ≡ true
      back (inl h) = or_left (lists (occupied_lanes t f n m p.1) (UnitLane p.0.0)) (list_any (is_in_unit t registers v p.0) (occupied_lanes t f n m p.1)) ((occupied_at t f n m computed p.1 (UnitLane p.0.0)).1 h)
      back (inr x) =
          or_right (lists (occupied_lanes t f n m p.1) (UnitLane p.0.0)) (list_any (is_in_unit t registers v p.0) (occupied_lanes t f n m p.1))
          ((some_decided (is_in_unit t registers v p.0) (occupied_lanes t f n m p.1) (OccupiedAt t f p.1) (occupied_at t f n m computed p.1)).1 (VirtualLane x.0 x.4.k, x.4.occupied, of_other p x))
