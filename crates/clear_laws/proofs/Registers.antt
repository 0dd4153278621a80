-- Registers of ranges change one by one, and stay without clashes.
use Rattle.std.proofs.Common.{◌≡◌, ◌<◌, ◌⊎◌, inl, inr, ◌∙◌, ℕ, suc, zero, Bool, true, false, [], ◌∷◌, Option, None, Some, length, refl, sym, ap, subst, arith, eqb-true}
use Rattle.std.specs.Prelude.{◌≢◌, nat_eq, nat_lt, slice_get, slice_set}
use Rattle.std.proofs.lemmas.Bool.{eqb-false, ltb-false, ltb-true}
use Rattle.target_base.specs.declared.types.Reg.{Reg}
use Rattle.target_base.specs.declared.types.Unit.{Unit as UnitNumber}
use Rattle.target_base.specs.declared.types.Target.{Target}
use Rattle.mir_func.specs.Value.{Function}
use Rattle.mir_meaning.specs.Points.{RangesClash, UnitClash}
use Rattle.meaning.specs.declared.types.Lane.TheVariants.{UnitLane, VirtualLane}
use Rattle.rewriter.specs.Physical.{Assignment, register_of}
use Rattle.clear_laws.specs.Apart.{AssignKeepsApart, ChangesOne, EndIsClear, Extends, IsApart, KeepsPoints, NothingIsApart, PointsKeepApart, SetChangesOne, SuitsRange, UnassignKeepsApart}

none-some : {r : Reg} {q : Option Reg} → q ≡ None → q ≡ Some r → ⊥
none-some e g = cc

some-inj : (r q : Reg) → Some r ≡ Some q → r ≡ q
some-inj r q e = cc

pub nothing_apart : NothingIsApart
nothing_apart t f rs none = record {
  classes = λ v r e. absurd (none-some (none v) e);
  ranges = λ v w r q apart e g clash. none-some (none v) e;
  units = λ v r u e clash. none-some (none v) e;
}

turned : (t : Target) (f : Function) (v w : ℕ) (r q : Reg) → RangesClash t f v r w q → RangesClash t f w q v r
turned t f v w r q z = (z.0, z.1, z.3, z.2)

-- a range is the one that changes, or has what it had
one-or-other : (rs new : Assignment) (v : ℕ) (r : Option Reg) → ChangesOne rs v r new → (w : ℕ) → (w ≡ v) ⊎ ((w ≢ v) × (register_of new w ≡ register_of rs w))
one-or-other rs new v r h w = go (nat_eq w v) refl
  where
    go : (b : Bool) → nat_eq w v ≡ b → (w ≡ v) ⊎ ((w ≢ v) × (register_of new w ≡ register_of rs w))
    go true e = inl (eqb-true w v e)
    go false e = inr (eqb-false w v e, h.others w (eqb-false w v e))

module _ (t : Target) (f : Function) (rs new : Assignment) (v : ℕ) (h : IsApart t f rs) where
  pub unassigned : ChangesOne rs v None new → IsApart t f new
  unassigned c = record {
    classes = λ w r e. h.classes w r (was w r e);
    ranges = λ w x r q apart e g clash. h.ranges w x r q apart (was w r e) (was x q g) clash;
    units = λ w r u e clash. h.units w r u (was w r e) clash;
  }
    where
      was : (w : ℕ) (r : Reg) → register_of new w ≡ Some r → register_of rs w ≡ Some r
      was w r e = go (one-or-other rs new v None c w)
        where
          go : (w ≡ v) ⊎ ((w ≢ v) × (register_of new w ≡ register_of rs w)) → register_of rs w ≡ Some r
          go (inl same) = absurd (none-some (ap (register_of new) same ∙ c.own) e)
          go (inr z) = sym z.1 ∙ e

  module _ (r : Reg) (suits : SuitsRange t f v r) (free : (w : ℕ) (q : Reg) → v ≢ w → register_of rs w ≡ Some q → RangesClash t f v r w q → ⊥) (units : (u : UnitNumber) → UnitClash t f v r u → ⊥) (c : ChangesOne rs v (Some r) new) where
    abbrev Is : ℕ → Reg → Type 0
    Is w q = ((w ≡ v) × (q ≡ r)) ⊎ ((w ≢ v) × (register_of rs w ≡ Some q))

    which : (w : ℕ) (q : Reg) → register_of new w ≡ Some q → Is w q
    which w q e = go (one-or-other rs new v (Some r) c w)
      where
        go : (w ≡ v) ⊎ ((w ≢ v) × (register_of new w ≡ register_of rs w)) → Is w q
        go (inl same) = inl (same, some-inj q r (sym e ∙ (ap (register_of new) same ∙ c.own)))
        go (inr z) = inr (z.0, sym z.1 ∙ e)

    class-of : (w : ℕ) (q : Reg) → Is w q → SuitsRange t f w q
    class-of w q (inl z) = subst (λ x. SuitsRange t f x q) (sym z.0) (subst (SuitsRange t f v) (sym z.1) suits)
    class-of w q (inr z) = h.classes w q z.1

    clash-of : (w x : ℕ) (p q : Reg) → w ≢ x → Is w p → Is x q → RangesClash t f w p x q → ⊥
    clash-of w x p q apart (inl a) (inl b) clash = apart (a.0 ∙ sym b.0)
    clash-of w x p q apart (inl a) (inr b) clash = free x q (λ e. b.0 (sym e)) b.1 (subst (λ y. RangesClash t f v y x q) a.1 (subst (λ y. RangesClash t f y p x q) a.0 clash))
    clash-of w x p q apart (inr a) (inl b) clash = free w p (λ e. a.0 (sym e)) a.1 (turned t f w v p r (subst (λ y. RangesClash t f w p v y) b.1 (subst (λ y. RangesClash t f w p y q) b.0 clash)))
    clash-of w x p q apart (inr a) (inr b) clash = h.ranges w x p q apart a.1 b.1 clash

    unit-of : (w : ℕ) (q : Reg) (u : UnitNumber) → Is w q → UnitClash t f w q u → ⊥
    unit-of w q u (inl z) clash = units u (subst (λ y. UnitClash t f v y u) z.1 (subst (λ y. UnitClash t f y q u) z.0 clash))
    unit-of w q u (inr z) clash = h.units w q u z.1 clash

    pub assigned : IsApart t f new
    assigned = record {
      classes = λ w q e. class-of w q (which w q e);
      ranges = λ w x p q apart e g clash. clash-of w x p q apart (which w p e) (which x q g) clash;
      units = λ w q u e clash. unit-of w q u (which w q e) clash;
    }

pub assign_apart : AssignKeepsApart
assign_apart t f rs new v r h suits free units c = assigned t f rs new v h r suits free units c

pub unassign_apart : UnassignKeepsApart
unassign_apart t f rs new v h c = unassigned t f rs new v h c

-- one element

set-same : (rs : Assignment) (v : ℕ) (r : Option Reg) → v < length rs → slice_get (slice_set rs v r) v ≡ Some r
set-same [] v r h = absurd (omega arith)
set-same (x ∷ rs) zero r h = refl
set-same (x ∷ rs) (suc v) r h = set-same rs v r (omega arith)

set-other : (rs : Assignment) (v w : ℕ) (r : Option Reg) → w ≢ v → slice_get (slice_set rs v r) w ≡ slice_get rs w
set-other [] v w r n = refl
set-other (x ∷ rs) zero zero r n = absurd (n refl)
set-other (x ∷ rs) zero (suc w) r n = refl
set-other (x ∷ rs) (suc v) zero r n = refl
set-other (x ∷ rs) (suc v) (suc w) r n = set-other rs v w r (λ e. n (ap suc e))

pub set_changes : SetChangesOne
set_changes rs v r h = record {
  own = ap (λ (x : Option (Option Reg)). elim x as (λ q. Option Reg) [ None ↦ None | Some y ↦ y ]) (set-same rs v r h);
  others = λ w n. ap (λ (x : Option (Option Reg)). elim x as (λ q. Option Reg) [ None ↦ None | Some y ↦ y ]) (set-other rs v w r n);
}

-- an edit of a range without register

module _ (t : Target) (f g : Function) (v : ℕ) (rs new : Assignment) (classes : (w : ℕ) → w < length f.classes → slice_get g.classes w ≡ slice_get f.classes w) (points : KeepsPoints t f v g) (none : register_of rs v ≡ None) (x : Extends f rs new) (h : IsApart t f rs) where
  record Had (w : ℕ) (r : Reg) : Type 0 where
    pub inside : w < length f.classes
    pub other : w ≡ v → ⊥
    pub was : register_of rs w ≡ Some r

  had : (w : ℕ) (r : Reg) → register_of new w ≡ Some r → Had w r
  had w r e = go (nat_lt w (length f.classes)) refl
    where
      go : (b : Bool) → nat_lt w (length f.classes) ≡ b → Had w r
      go true l =
          let was : register_of rs w ≡ Some r = sym (x.same w (ltb-true w (length f.classes) l)) ∙ e in
          record { inside = ltb-true w (length f.classes) l; other = λ s. none-some (ap (register_of rs) s ∙ none) was; was = was }
      go false l = absurd (none-some (x.further w (ltb-false w (length f.classes) l)) e)

  pub points_stay : IsApart t g new
  points_stay = record {
    classes = λ w r e. (let k = had w r e in let z = h.classes w r k.was in (z.0, classes w k.inside ∙ z.1, z.2));
    ranges = λ w y r q apart e d clash.
        (let a = had w r e in
        let b = had y q d in
        let z = points clash.0 in
        h.ranges w y r q apart a.was b.was (
          z.0,
          clash.1,
          record { k = clash.2.k; occupied = z.1 (VirtualLane w clash.2.k) (a.inside, a.other) clash.2.occupied; unit = clash.2.unit },
          record { k = clash.3.k; occupied = z.1 (VirtualLane y clash.3.k) (b.inside, b.other) clash.3.occupied; unit = clash.3.unit },
        ));
    units = λ w r u e clash.
        (let a = had w r e in
        let z = points clash.0 in
        h.units w r u a.was (z.0, record { k = clash.1.k; occupied = z.1 (VirtualLane w clash.1.k) (a.inside, a.other) clash.1.occupied; unit = clash.1.unit }, z.1 (UnitLane u.0) tt clash.2));
  }

pub points_apart : PointsKeepApart
points_apart t f g v rs new classes points none x h = points_stay t f g v rs new classes points none x h

pub end_clear : EndIsClear
end_clear t f rs h named = record { named = named; classes = h.classes; ranges = h.ranges; units = h.units }
