-- The units that are found live hold what is live.
use Rattle.std.proofs.Common.{◌≡◌, ◌∙◌, ◌⊎◌, inl, inr, ◌+◌, ℕ, zero, suc, Bool, true, false, ◌&&◌, ◌||◌, List, [], ◌∷◌, Option, Some, None, length, take, refl, sym, ap, subst, arith, eq-eqb, lt-ltb}
use Rattle.std.specs.Prelude.{◌↔◌, nat_eq, nat_lt, slice_get}
use Rattle.std.proofs.lemmas.Bool.{eqb-true, or_cases}
use Rattle.std.proofs.lemmas.List.{take_all}
use Rattle.std.proofs.lemmas.Option.{same_Some, slice_get_within}
use Rattle.target_base.specs.declared.types.Reg.{Reg}
use Rattle.target_base.specs.declared.types.Unit.{Unit as UnitNumber}
use Rattle.target_base.specs.declared.types.Target.{Target}
use Rattle.target_base.specs.Numbers.{unit_number}
use Rattle.target_base.specs.Registers.{units_of}
use Rattle.meaning.specs.declared.types.Lane.{Lane}
use Rattle.meaning.specs.declared.types.Lane.TheVariants.{VirtualLane, UnitLane}
use Rattle.meaning.specs.Live.{is_slot}
use Rattle.mir_meaning.specs.Points.{Start, LiveAt}
use Rattle.instr_effects.specs.declared.owner.Owner.TheVariants as owners
use Rattle.instr_effects.specs.Numbered.{number_in}
use Rattle.instr_effects.specs.Stepping.{tag_of}
use Rattle.live_lanes.specs.declared.table.Table.{Table}
use Rattle.live_laws.specs.Effects.Shaped.{is_proper}
use Rattle.rewriter.specs.LiveUnits.{some_enters, unit_enters, holds_live, assigned_units, held_live, is_live_unit}
use Rattle.rewriter.specs.Physical.{Assignment, register_of}
use Rattle.rewriter.specs.Laws.{HoldsLive, itself, lane, UnitsLaw}
use Rattle.rewriter.proofs.Starts.{starts-law}

both-left : (a b : Bool) → (a && b) ≡ true → a ≡ true
both-left true b e = refl
both-left false b e = absurd (cc)

both-right : (a b : Bool) → (a && b) ≡ true → b ≡ true
both-right true b e = e
both-right false b e = absurd (cc)

both : (a b : Bool) → a ≡ true → b ≡ true → (a && b) ≡ true
both a b h g = ap (λ c. c && b) h ∙ g

left-true : (a b : Bool) → a ≡ true → (a || b) ≡ true
left-true a b h = ap (λ c. c || b) h

right-true : (a b : Bool) → b ≡ true → (a || b) ≡ true
right-true true b h = refl
right-true false b h = h

same_unit : (w : UnitNumber) (u : ℕ) → nat_eq w.0 u ≡ true → w ≡ unit_number u
same_unit w u h = ap unit_number (eqb-true w.0 u h)

-- the lane of a range enters the block
abbrev range_enters : Table → ℕ → ℕ → ℕ → Bool
range_enters x p v k = some_enters x (number_in x.lanes (owners.Range v k)) p

-- the unit is one of these, which hold lanes of range v from the k-th on, and holds one that enters
record HeldLane (x : Table) (v k : ℕ) (us : List UnitNumber) (p u : ℕ) : Type 0 where
  at : ℕ
  is : slice_get us at ≡ Some (unit_number u)
  enters : range_enters x p v (k + at) ≡ true

find-lane : (x : Table) (v k : ℕ) (us : List UnitNumber) (p u : ℕ) → holds_live x v k us p u ≡ true → HeldLane x v k us p u
find-lane x v k [] p u h = absurd (cc)
find-lane x v k (w ∷ ws) p u h = go (or_cases (nat_eq w.0 u && range_enters x p v k) (holds_live x v (suc k) ws p u) h) (λ e. find-lane x v (suc k) ws p u e)
  where
    go : ((nat_eq w.0 u && range_enters x p v k) ≡ true) ⊎ (holds_live x v (suc k) ws p u ≡ true) → (holds_live x v (suc k) ws p u ≡ true → HeldLane x v (suc k) ws p u) → HeldLane x v k (w ∷ ws) p u
    go (inl a) later =
        let z : k + 0 ≡ k = omega arith in
        record {
          at = 0;
          is = ap (λ (n : UnitNumber). Some n) (same_unit w u (both-left (nat_eq w.0 u) (range_enters x p v k) a));
          enters = ap (range_enters x p v) z ∙ both-right (nat_eq w.0 u) (range_enters x p v k) a;
        }
    go (inr a) later =
        let r = later a in
        let z : k + suc r.at ≡ suc k + r.at = omega arith in
        record { at = suc r.at; is = r.is; enters = ap (range_enters x p v) z ∙ r.enters }

put-lane : (x : Table) (v k : ℕ) (us : List UnitNumber) (p u at : ℕ) → slice_get us at ≡ Some (unit_number u) → range_enters x p v (k + at) ≡ true → holds_live x v k us p u ≡ true
put-lane x v k [] p u at h e = absurd (cc)
put-lane x v k (w ∷ ws) p u zero h e =
    let s : w ≡ unit_number u = same_Some w (unit_number u) h in
    let n : nat_eq w.0 u ≡ true = eq-eqb w.0 u (ap (λ (y : UnitNumber). y.0) s) in
    let z : k ≡ k + 0 = omega arith in
    left-true (nat_eq w.0 u && range_enters x p v k) (holds_live x v (suc k) ws p u) (both (nat_eq w.0 u) (range_enters x p v k) n (ap (range_enters x p v) z ∙ e))
put-lane x v k (w ∷ ws) p u (suc at) h e =
    let z : suc k + at ≡ k + suc at = omega arith in
    right-true (nat_eq w.0 u && range_enters x p v k) (holds_live x v (suc k) ws p u) (put-lane x v (suc k) ws p u at h (ap (range_enters x p v) z ∙ e))

-- the unit stands in the register of one of the ranges from v on, and holds a lane of it that enters
record HeldRange (t : Target) (x : Table) (v : ℕ) (rs : Assignment) (p u : ℕ) : Type 0 where
  at : ℕ
  reg : Reg
  is : register_of rs at ≡ Some reg
  held : HeldLane x (v + at) 0 (units_of t reg) p u

find-range : (t : Target) (x : Table) (v : ℕ) (rs : Assignment) (p u : ℕ) → held_live t x v rs p u ≡ true → HeldRange t x v rs p u
find-range t x v [] p u h = absurd (cc)
find-range t x v (r ∷ rs) p u h = go (or_cases (holds_live x v 0 (assigned_units t r) p u) (held_live t x (suc v) rs p u) h) (λ e. find-range t x (suc v) rs p u e)
  where
    here : (o : Option Reg) → holds_live x v 0 (assigned_units t o) p u ≡ true → HeldRange t x v (o ∷ rs) p u
    here None a = absurd (cc)
    here (Some q) a =
        let z : v ≡ v + 0 = omega arith in
        record { at = 0; reg = q; is = refl; held = subst (λ j. HeldLane x j 0 (units_of t q) p u) z (find-lane x v 0 (units_of t q) p u a) }

    go : (holds_live x v 0 (assigned_units t r) p u ≡ true) ⊎ (held_live t x (suc v) rs p u ≡ true) → (held_live t x (suc v) rs p u ≡ true → HeldRange t x (suc v) rs p u) → HeldRange t x v (r ∷ rs) p u
    go (inl a) later = here r a
    go (inr a) later =
        let found = later a in
        let z : suc v + found.at ≡ v + suc found.at = omega arith in
        record { at = suc found.at; reg = found.reg; is = found.is; held = subst (λ j. HeldLane x j 0 (units_of t found.reg) p u) z found.held }

put-range : (t : Target) (x : Table) (v : ℕ) (rs : Assignment) (p u at : ℕ) (q : Reg) → register_of rs at ≡ Some q → holds_live x (v + at) 0 (units_of t q) p u ≡ true → held_live t x v rs p u ≡ true
put-range t x v [] p u at q h e = absurd (cc)
put-range t x v (r ∷ rs) p u zero q h e =
    let z : v ≡ v + 0 = omega arith in
    left-true (holds_live x v 0 (assigned_units t r) p u) (held_live t x (suc v) rs p u)
    (ap (λ o. holds_live x v 0 (assigned_units t o) p u) h ∙ (ap (λ j. holds_live x j 0 (units_of t q) p u) z ∙ e))
put-range t x v (r ∷ rs) p u (suc at) q h e =
    let z : suc v + at ≡ v + suc at = omega arith in
    right-true (holds_live x v 0 (assigned_units t r) p u) (held_live t x (suc v) rs p u) (put-range t x (suc v) rs p u at q h (ap (λ j. holds_live x j 0 (units_of t q) p u) z ∙ e))

none_before : (n : ℕ) → 0 + n ≡ n
none_before n = omega arith

pub units-law : UnitsLaw
units-law live rs computed keeps few k b e u low = ((λ m. to (or_cases (unit_enters x u k) (held_live t x 0 rs k u) (sym same ∙ m))), from)
  where
    t : Target
    t = live.target

    x : Table
    x = live.table

    starts : (l : Lane) → is_slot l ≡ false → (some_enters x (tag_of (number_in x.lanes) (is_proper t) l) k ≡ true) ↔ LiveAt t live.func (Start b.number) l
    starts l still = starts-law t live.func x computed keeps l still k b e

    same : is_live_unit live rs k u ≡ (unit_enters x u k || held_live t x 0 rs k u)
    same =
        ap (λ c. c && (nat_lt u (length live.target.units) && (unit_enters x u k || held_live t x 0 (take 4294967296 rs) k u))) (lt-ltb k (length live.func.blocks) (slice_get_within live.func.blocks k b e))
        ∙ (ap (λ c. c && (unit_enters x u k || held_live t x 0 (take 4294967296 rs) k u)) (lt-ltb u (length live.target.units) low)
        ∙ ap (λ (qs : Assignment). unit_enters x u k || held_live t x 0 qs k u) (take_all 4294967296 rs few))

    to : (unit_enters x u k ≡ true) ⊎ (held_live t x 0 rs k u ≡ true) → HoldsLive t live.func rs b.number u
    to (inl a) = itself ((starts (UnitLane u) refl).0 a)
    to (inr a) =
        let r = find-range t x 0 rs k u a in
        let v : range_enters x k r.at r.held.at ≡ range_enters x k (0 + r.at) (0 + r.held.at) = ap (λ n. range_enters x k n r.held.at) (sym (none_before r.at)) ∙ ap (range_enters x k (0 + r.at)) (sym (none_before r.held.at)) in
        lane r.at r.held.at r.reg r.is r.held.is ((starts (VirtualLane r.at r.held.at) refl).0 (v ∙ r.held.enters))

    from : HoldsLive t live.func rs b.number u → is_live_unit live rs k u ≡ true
    from (itself a) = same ∙ left-true (unit_enters x u k) (held_live t x 0 rs k u) ((starts (UnitLane u) refl).1 a)
    from (lane v j q i g a) =
        let there : range_enters x k (0 + v) (0 + j) ≡ range_enters x k v j = ap (λ n. range_enters x k n (0 + j)) (none_before v) ∙ ap (range_enters x k v) (none_before j) in
        same ∙ right-true (unit_enters x u k) (held_live t x 0 rs k u) (put-range t x 0 rs k u v q i (put-lane x (0 + v) 0 (units_of t q) k u j g (there ∙ (starts (VirtualLane v j) refl).1 a)))
