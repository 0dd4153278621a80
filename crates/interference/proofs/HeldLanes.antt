-- Which range and unit hold a lane, and which pieces of held lanes edits changed.
use Rattle.std.proofs.Common.{◌≡◌, ◌<◌, ◌+◌, ◌⊎◌, inl, inr, ⊎_elim, ℕ, zero, suc, Bool, true, false, cond, not, List, [], ◌∷◌, ◌++◌, Option, None, Some, length, take, map, get_or, refl, sym, ap, ◌∙◌, subst, arith, eqb, eqb-true, eq-eqb}
use Rattle.std.specs.Prelude.{◌||◌, ◌==◌, nat_eq, slice_get, option_map}
use Rattle.std.specs.List.{list_any}
use Rattle.std.specs.Option.{option_eq}
use Rattle.target_base.specs.declared.types.Reg.{Reg}
use Rattle.target_base.specs.declared.types.Target.{Target}
use Rattle.target_base.specs.declared.types.Unit.{Unit as UnitNumber}
use Rattle.target_base.specs.Names.{are_distinct_numbers, is_distinct}
use Rattle.target_base.specs.Registers.{units_of}
use Rattle.mir_meaning.specs.Paths.{Among, here}
use Rattle.instr_effects.specs.Numbered.{number_in}
use Rattle.instr_effects.specs.declared.lanes.LaneTable.{LaneTable}
use Rattle.instr_effects.specs.declared.owner.Owner.TheVariants as owners
use Rattle.live_lanes.specs.declared.ask.extent.ChangedPiece.{ChangedPiece}
use Rattle.live_lanes.proofs.Basics.{none-among}
use Rattle.live_lanes.proofs.Cells.{both-left, both-right}
use Rattle.live_lanes.proofs.Numbered.{among-cases, among-left, among-right, among-split}
use Rattle.live_edits.proofs.NotedLists.{taken-cases}
use Rattle.interference.specs.declared.saved_lists.AssignedPiece.{AssignedPiece}
use Rattle.interference.specs.declared.matrix.Matrix.{Matrix}
use Rattle.interference.specs.Clashes.{register_in}
use Rattle.interference.specs.HeldLanes.{lane_in, lane_by, holding_lane, unit_at, IsHolder, assigned_piece, AddsHeld, AreHeldPieces}
use Rattle.interference.proofs.Starts.{units-distinct}

abbrev pub pair : ℕ → ℕ → Option (ℕ × ℕ)
pair v u = Some (v, u)

some-of : {X : Type 0} {x y : X} → Some x ≡ Some y → x ≡ y
some-of e = cc

pub option-differs : (o : Option ℕ) (n : ℕ) → o ≡ Some n → not (option_eq eqb o (Some n)) ≡ true → ⊥
option-differs None n e d = absurd (cc)
option-differs (Some k) n e d = let z : false ≡ true = ap not (sym (eq-eqb k n (some-of e))) ∙ d in absurd (cc)

pub option-same : (o : Option ℕ) (n : ℕ) → not (option_eq eqb o (Some n)) ≡ false → o ≡ Some n
option-same None n e = absurd (cc)
option-same (Some k) n e = go (eqb k n) refl
  where
    go : (t : Bool) → eqb k n ≡ t → Some k ≡ Some n
    go true f = ap (λ x. Some x) (eqb-true k n f)
    go false f = absurd (let z : true ≡ false = ap not (sym f) ∙ e in cc)

-- a list of pieces

pub adds-none : (holder : Option (ℕ × ℕ)) (c : ChangedPiece) (old : List AssignedPiece) → holder ≡ None → AddsHeld holder c old old
adds-none holder c old none = record { kept = λ p m. m; has = λ v u e. absurd (let z : None ≡ pair v u = sym none ∙ e in cc); only = λ p m. inl m }

pair-left : (v u w z : ℕ) → pair v u ≡ pair w z → v ≡ w
pair-left v u w z e = ap (λ (p : ℕ × ℕ). p.0) (some-of e)

pair-right : (v u w z : ℕ) → pair v u ≡ pair w z → u ≡ z
pair-right v u w z e = ap (λ (p : ℕ × ℕ). p.1) (some-of e)

same-piece : (c : ChangedPiece) (v u w z : ℕ) → pair v u ≡ pair w z → assigned_piece c v u ≡ assigned_piece c w z
same-piece c v u w z e = λ i. assigned_piece c (pair-left v u w z e i) (pair-right v u w z e i)

pub adds-known : (holder : Option (ℕ × ℕ)) (c : ChangedPiece) (old : List AssignedPiece) (v u : ℕ) → holder ≡ Some (v, u) → Among (assigned_piece c v u) old → AddsHeld holder c old old
adds-known holder c old v u is m = record {
  kept = λ p n. n;
  has = λ w z e. subst (λ q. Among q old) (same-piece c v u w z (sym is ∙ e)) m;
  only = λ p n. inl n;
}

pub adds-new : (holder : Option (ℕ × ℕ)) (c : ChangedPiece) (old new : List AssignedPiece) (v u : ℕ) → holder ≡ Some (v, u) → new ≡ old ++ assigned_piece c v u ∷ [] → AddsHeld holder c old new
adds-new holder c old new v u is list = record {
  kept = λ p m. subst (Among p) (sym list) (among-left p old (assigned_piece c v u ∷ []) m);
  has = λ w z e. subst (Among (assigned_piece c w z)) (sym list) (among-right (assigned_piece c w z) old (assigned_piece c v u ∷ []) (subst (λ q. Among (assigned_piece c w z) (q ∷ [])) (same-piece c w z v u (sym e ∙ is)) here));
  only = λ p m. ⊎_elim (λ a. inl a) (λ a. inr (last p (among-cases p (assigned_piece c v u) [] a))) (among-split p old (assigned_piece c v u ∷ []) (subst (Among p) list m));
}
  where
    last : (p : AssignedPiece) → (p ≡ assigned_piece c v u) ⊎ Among p [] → (holder ≡ Some (p.range, p.unit)) × (p.piece ≡ c)
    last p (inl e) = (is ∙ (λ i. Some ((sym e i).range, (sym e i).unit)), ap (λ (q : AssignedPiece). q.piece) e)
    last p (inr a) = absurd (none-among p a)

pub no-pieces : (m : Matrix) (cs : List ChangedPiece) → AreHeldPieces m (take 0 cs) []
no-pieces m cs = record { held = λ p a. absurd (none-among p a); all = λ c v u a e. absurd (none-among c a) }

-- one more changed piece
pub pieces-more : (m : Matrix) (cs : List ChangedPiece) (k : ℕ) (c : ChangedPiece) (holder : Option (ℕ × ℕ)) (old new : List AssignedPiece) → k < length cs → c ≡ get_or cs k c → IsHolder m c.lane holder → AreHeldPieces m (take k cs) old → AddsHeld holder c old new → AreHeldPieces m (take (k + 1) cs) new
pieces-more m cs k c holder old new lt own is so adds = record {
  held = λ p a. held p (adds.only p a);
  all = λ d v u a e. ⊎_elim (λ b. adds.kept (assigned_piece d v u) (so.all d v u b e))
      (λ (f : d ≡ c). subst (λ x. Among (assigned_piece x v u) new) (sym f) (adds.has v u (is.one v u (subst (λ (x : ChangedPiece). holding_lane m v u ≡ Some x.lane) f e)))) (taken-cases cs k c lt own d a);
}
  where
    held : (p : AssignedPiece) → Among p old ⊎ ((holder ≡ Some (p.range, p.unit)) × (p.piece ≡ c)) → holding_lane m p.range p.unit ≡ Some p.piece.lane
    held p (inl a) = so.held p a
    held p (inr (e, f)) = is.holds p.range p.unit e ∙ ap (λ (x : ChangedPiece). Some x.lane) (sym f)

-- the lanes of a range in a register

zero-on : (k : ℕ) → k + 0 ≡ k
zero-on k = omega arith

more-on : (k j : ℕ) → suc k + j ≡ k + suc j
more-on k j = omega arith

pub lane-parts : (lanes : LaneTable) (v k : ℕ) (us : List UnitNumber) (u l : ℕ) → lane_in lanes v k us u ≡ Some l → (j : ℕ) × (number_in lanes (owners.Range v (k + j)) ≡ Some l) × (option_map (λ (w : UnitNumber). w.0) (slice_get us j) ≡ Some u)
lane-parts lanes v k [] u l e = absurd (cc)
lane-parts lanes v k (w ∷ ws) u l e = go (nat_eq w.0 u) refl e (lane-parts lanes v (suc k) ws u l)
  where
    go : (t : Bool) → nat_eq w.0 u ≡ t → cond t (number_in lanes (owners.Range v k)) (lane_in lanes v (suc k) ws u) ≡ Some l
        → (lane_in lanes v (suc k) ws u ≡ Some l → (j : ℕ) × (number_in lanes (owners.Range v (suc k + j)) ≡ Some l) × (option_map (λ (y : UnitNumber). y.0) (slice_get ws j) ≡ Some u))
        → (j : ℕ) × (number_in lanes (owners.Range v (k + j)) ≡ Some l) × (option_map (λ (y : UnitNumber). y.0) (slice_get (w ∷ ws) j) ≡ Some u)
    go true f g ih = (0, ap (λ n. number_in lanes (owners.Range v n)) (zero-on k) ∙ g, ap (λ n. Some n) (eqb-true w.0 u f))
    go false f g ih = let z = ih g in (suc z.0, ap (λ n. number_in lanes (owners.Range v n)) (sym (more-on k z.0)) ∙ z.1, z.2)

not-true : (b : Bool) → not b ≡ true → b ≡ false
not-true true e = absurd (cc)
not-true false e = refl

any-left : (a b : Bool) → (a || b) ≡ false → a ≡ false
any-left true b e = e
any-left false b e = refl

any-right : (a b : Bool) → (a || b) ≡ false → b ≡ false
any-right true b e = absurd (cc)
any-right false b e = e

unlike : (n j : ℕ) (us : List UnitNumber) (w : UnitNumber) → list_any (λ m. n == m) (map (λ (z : UnitNumber). z.0) us) ≡ false → slice_get us j ≡ Some w → nat_eq n w.0 ≡ false
unlike n j [] w e at = absurd (cc)
unlike n zero (y ∷ us) w e at = ap (λ (z : UnitNumber). nat_eq n z.0) (sym (some-of at)) ∙ any-left (n == y.0) (list_any (λ m. n == m) (map (λ (z : UnitNumber). z.0) us)) e
unlike n (suc j) (y ∷ us) w e at = unlike n j us w (any-right (n == y.0) (list_any (λ m. n == m) (map (λ (z : UnitNumber). z.0) us)) e) at

pub lane-there : (lanes : LaneTable) (v k : ℕ) (us : List UnitNumber) (j : ℕ) (w : UnitNumber) → are_distinct_numbers (map (λ (z : UnitNumber). z.0) us) ≡ true → slice_get us j ≡ Some w → lane_in lanes v k us w.0 ≡ number_in lanes (owners.Range v (k + j))
lane-there lanes v k [] j w d at = absurd (cc)
lane-there lanes v k (y ∷ us) zero w d at =
    let same : nat_eq y.0 w.0 ≡ true = eq-eqb y.0 w.0 (ap (λ (z : UnitNumber). z.0) (some-of at)) in
    ap (λ t. cond t (number_in lanes (owners.Range v k)) (lane_in lanes v (suc k) us w.0)) same ∙ ap (λ n. number_in lanes (owners.Range v n)) (sym (zero-on k))
lane-there lanes v k (y ∷ us) (suc j) w d at =
    let lone : list_any (λ n. y.0 == n) (map (λ (z : UnitNumber). z.0) us) ≡ false = not-true (list_any (λ n. y.0 == n) (map (λ (z : UnitNumber). z.0) us)) (both-left (not (list_any (λ n. y.0 == n) (map (λ (z : UnitNumber). z.0) us))) (is_distinct (λ m n. m == n) (map (λ (z : UnitNumber). z.0) us)) d) in
    ap (λ t. cond t (number_in lanes (owners.Range v k)) (lane_in lanes v (suc k) us w.0)) (unlike y.0 j us w lone at)
    ∙ (lane-there lanes v (suc k) us j w (both-right (not (list_any (λ n. y.0 == n) (map (λ (z : UnitNumber). z.0) us))) (is_distinct (λ m n. m == n) (map (λ (z : UnitNumber). z.0) us)) d) at
    ∙ ap (λ n. number_in lanes (owners.Range v n)) (more-on k j))

module _ (t : Target) (lanes : LaneTable) (v : ℕ) where
  -- the lane that a range has a unit by, and the unit of that lane
  pub by-parts : (r : Option Reg) (u l : ℕ) → lane_by t lanes v r u ≡ Some l → (k : ℕ) × (number_in lanes (owners.Range v k) ≡ Some l) × (unit_at t r k ≡ Some u)
  by-parts None u l e = absurd (cc)
  by-parts (Some p) u l e = let z = lane-parts lanes v 0 (units_of t p) u l e in (z.0, ap (λ n. number_in lanes (owners.Range v n)) (sym (plain z.0)) ∙ z.1, z.2)
    where
      plain : (j : ℕ) → 0 + j ≡ j
      plain j = omega arith

  pub parts-by : (r : Option Reg) (k u l : ℕ) → number_in lanes (owners.Range v k) ≡ Some l → unit_at t r k ≡ Some u → lane_by t lanes v r u ≡ Some l
  parts-by None k u l n e = absurd (cc)
  parts-by (Some p) k u l n e = go (slice_get (units_of t p) k) refl e
    where
      plain : 0 + k ≡ k
      plain = omega arith

      go : (o : Option UnitNumber) → slice_get (units_of t p) k ≡ o → option_map (λ (w : UnitNumber). w.0) o ≡ Some u → lane_in lanes v 0 (units_of t p) u ≡ Some l
      go None f g = absurd (cc)
      go (Some w) f g = subst (λ y. lane_in lanes v 0 (units_of t p) y ≡ Some l) (some-of g) (lane-there lanes v 0 (units_of t p) k w (units-distinct t p) f ∙ (ap (λ y. number_in lanes (owners.Range v y)) plain ∙ n))

module _ (m : Matrix) (lane : ℕ) (found : Option (ℕ × ℕ)) (numbered : (v k : ℕ) → number_in m.live.table.lanes (owners.Range v k) ≡ Some lane → found ≡ Some (v, k)) where
  -- nobody holds it, where no lane of a register is found
  pub held-by-none : ((v k u : ℕ) → found ≡ Some (v, k) → number_in m.live.table.lanes (owners.Range v k) ≡ Some lane → unit_at m.live.target (register_in m.registers.items v) k ≡ Some u → ⊥) → IsHolder m lane None
  held-by-none none = record {
    holds = λ v u e. absurd (cc);
    one = λ v u e. let z = by-parts m.live.target m.live.table.lanes v (register_in m.registers.items v) u lane e in absurd (none v z.0 u (numbered v z.0 z.1) z.1 z.2);
  }

  pub held-by : (v k u : ℕ) → found ≡ Some (v, k) → number_in m.live.table.lanes (owners.Range v k) ≡ Some lane → unit_at m.live.target (register_in m.registers.items v) k ≡ Some u → IsHolder m lane (Some (v, u))
  held-by v k u at number unit = record {
    holds = λ w z e. subst (λ (p : ℕ × ℕ). holding_lane m p.0 p.1 ≡ Some lane) (some-of e) (parts-by m.live.target m.live.table.lanes v (register_in m.registers.items v) k u lane number unit);
    one = λ w z e. one w z (by-parts m.live.target m.live.table.lanes w (register_in m.registers.items w) z lane e);
  }
    where
      one : (w z : ℕ) → (j : ℕ) × (number_in m.live.table.lanes (owners.Range w j) ≡ Some lane) × (unit_at m.live.target (register_in m.registers.items w) j ≡ Some z) → pair v u ≡ pair w z
      one w z (j, n, e) =
          let same : pair v k ≡ pair w j = sym at ∙ numbered w j n in
          let units : unit_at m.live.target (register_in m.registers.items v) k ≡ unit_at m.live.target (register_in m.registers.items w) j = λ i. unit_at m.live.target (register_in m.registers.items (pair-left v k w j same i)) (pair-right v k w j same i) in
          let last : u ≡ z = some-of (sym unit ∙ (units ∙ e)) in
          λ i. Some (pair-left v k w j same i, last i)

-- both are the same lane of a range
pub same-unit : (m : Matrix) (v k w j : ℕ) (unit : Option ℕ) → pair v k ≡ pair w j → unit ≡ unit_at m.live.target (register_in m.registers.items v) k → unit_at m.live.target (register_in m.registers.items w) j ≡ unit
same-unit m v k w j unit same is = sym (is ∙ (λ i. unit_at m.live.target (register_in m.registers.items (pair-left v k w j same i)) (pair-right v k w j same i)))

pub same-lane : (m : Matrix) (v k w j : ℕ) (lane : Option ℕ) → pair v k ≡ pair w j → lane ≡ number_in m.live.table.lanes (owners.Range v k) → number_in m.live.table.lanes (owners.Range w j) ≡ lane
same-lane m v k w j lane same is = sym (is ∙ (λ i. number_in m.live.table.lanes (owners.Range (pair-left v k w j same i) (pair-right v k w j same i))))
