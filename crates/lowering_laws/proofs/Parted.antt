-- Lanes that writes of a register's lanes write, and lists of numbers.
use Rattle.std.proofs.Common.{◌≡◌, ◌∷◌, ◌++◌, ◌∙◌, ◌&&◌, ◌||◌, ◌≤◌, ℕ, zero, suc, Bool, true, false, List, map, length, refl, sym, ap, subst, add-one, eqb-true, eq-eqb, arith, []}
use Rattle.std.specs.Prelude.{nat_eq}
use Rattle.std.specs.List.{range_with_len}
use Rattle.target_base.proofs.Tests.{first_of_both, second_of_both}
use Rattle.meaning.specs.Lanes.{Writes, same_lane}
use Rattle.meaning.specs.Live.{Among, here, there}
use Rattle.meaning.specs.declared.types.Lane.{Lane}
use Rattle.meaning.specs.declared.types.Lane.TheVariants.{SlotLane, UnitLane, VirtualLane}
use Rattle.meaning.specs.declared.types.Source.{Source}
use Rattle.mir_meaning.specs.Registers.{has_number, numbers}
use Rattle.mir_meaning.specs.Items.{moved, undefined}
use Rattle.instr_effects.proofs.Members.{member-elim, member-none, right-in}
use Rattle.live_laws.proofs.Effects.Moved.{Apart}
use Rattle.lowering_laws.proofs.Replaced.{h}
use Rattle.lowering_laws.proofs.Traced.{is_written, lanes_by}

-- lanes that are written

lane-is : (v k : ℕ) (l : Lane) → same_lane (VirtualLane v k) l ≡ true → l ≡ VirtualLane v k
lane-is v k (VirtualLane w j) e = λ x. VirtualLane (sym (eqb-true v w (first_of_both (nat_eq v w) (nat_eq k j) e)) x) (sym (eqb-true k j (second_of_both (nat_eq v w) (nat_eq k j) e)) x)
lane-is v k (UnitLane u) e = absurd (cc)
lane-is v k (SlotLane s j w) e = absurd (cc)

abbrev pub IsOf : ℕ → List ℕ → Lane → Type 0
IsOf v ks l = (k : ℕ) × (l ≡ VirtualLane v k) × Among k ks

pub moved-lane : (v : ℕ) (ks : List ℕ) (ss : List Source) (l : Lane) → is_written (moved false (lanes_by v ks) ss) l ≡ true → IsOf v ks l
moved-lane v [] ss l e = absurd (cc)
moved-lane v (k ∷ ks) [] l e = absurd (cc)
moved-lane v (k ∷ ks) (s ∷ ss) l e = go (same_lane (VirtualLane v k) l) refl e (moved-lane v ks ss l)
  where
    go : (y : Bool) → same_lane (VirtualLane v k) l ≡ y → (y || is_written (moved false (lanes_by v ks) ss) l) ≡ true → (is_written (moved false (lanes_by v ks) ss) l ≡ true → IsOf v ks l) → IsOf v (k ∷ ks) l
    go true q e ih = (k, lane-is v k l q, here)
    go false q e ih = let z = ih e in (z.0, z.1, there z.2)

pub undefined-lane : (v : ℕ) (ks : List ℕ) (l : Lane) → is_written (undefined false (lanes_by v ks)) l ≡ true → IsOf v ks l
undefined-lane v [] l e = absurd (cc)
undefined-lane v (k ∷ ks) l e = go (same_lane (VirtualLane v k) l) refl e (undefined-lane v ks l)
  where
    go : (y : Bool) → same_lane (VirtualLane v k) l ≡ y → (y || is_written (undefined false (lanes_by v ks)) l) ≡ true → (is_written (undefined false (lanes_by v ks)) l ≡ true → IsOf v ks l) → IsOf v (k ∷ ks) l
    go true q e ih = (k, lane-is v k l q, here)
    go false q e ih = let z = ih e in (z.0, z.1, there z.2)

pub moved-written : (v : ℕ) (ks : List ℕ) (ss : List Source) (k : ℕ) → length ks ≤ length ss → Among k ks → is_written (moved false (lanes_by v ks) ss) (VirtualLane v k) ≡ true
moved-written v [] ss k h m = absurd (member-none k m)
moved-written v (j ∷ ks) [] k h m = absurd (omega arith)
moved-written v (j ∷ ks) (s ∷ ss) k h m = member-elim k j ks (λ e. (λ x. (eq-eqb v v refl x && eq-eqb j k (sym e) x) || is_written (moved false (lanes_by v ks) ss) (VirtualLane v k))) (λ i. either (same_lane (VirtualLane v j) (VirtualLane v k)) (moved-written v ks ss k (omega arith) i)) m
  where
    either : (y : Bool) → is_written (moved false (lanes_by v ks) ss) (VirtualLane v k) ≡ true → (y || is_written (moved false (lanes_by v ks) ss) (VirtualLane v k)) ≡ true
    either true q = refl
    either false q = q

pub written-either : (xs ys : Writes) (l : Lane) → is_written (xs ++ ys) l ≡ true → is_written xs l ≡ false → is_written ys l ≡ true
written-either [] ys l e q = e
written-either (w ∷ xs) ys l e q = go (same_lane w.lane l) e q (written-either xs ys l)
  where
    go : (y : Bool) → (y || is_written (xs ++ ys) l) ≡ true → (y || is_written xs l) ≡ false → (is_written (xs ++ ys) l ≡ true → is_written xs l ≡ false → is_written ys l ≡ true) → is_written ys l ≡ true
    go true e q ih = absurd (cc)
    go false e q ih = ih e q

pub written-left : (xs ys : Writes) (l : Lane) → is_written xs l ≡ true → is_written (xs ++ ys) l ≡ true
written-left [] ys l e = absurd (cc)
written-left (w ∷ xs) ys l e = go (same_lane w.lane l) e (written-left xs ys l)
  where
    go : (y : Bool) → (y || is_written xs l) ≡ true → (is_written xs l ≡ true → is_written (xs ++ ys) l ≡ true) → (y || is_written (xs ++ ys) l) ≡ true
    go true e ih = refl
    go false e ih = ih e

pub written-right : (xs ys : Writes) (l : Lane) → is_written ys l ≡ true → is_written (xs ++ ys) l ≡ true
written-right [] ys l e = e
written-right (w ∷ xs) ys l e = go (same_lane w.lane l) (written-right xs ys l e)
  where
    go : (y : Bool) → is_written (xs ++ ys) l ≡ true → (y || is_written (xs ++ ys) l) ≡ true
    go true q = refl
    go false q = q

pub apart-split : (xs ys : List ℕ) → Apart (xs ++ ys) → (k : ℕ) → Among k ys → Among k xs → ⊥
apart-split [] ys p k m i = member-none k i
apart-split (x ∷ xs) ys p k m i = member-elim k x xs (λ e. p.0 (subst (λ z. Among z (xs ++ ys)) e (right-in k xs ys m))) (λ j. apart-split xs ys p.1 k m j) i

pub apart-right : (xs ys : List ℕ) → Apart (xs ++ ys) → Apart ys
apart-right [] ys p = p
apart-right (x ∷ xs) ys p = apart-right xs ys p.1

pub ranged : (n k : ℕ) → range_with_len n k ≡ numbers n k
ranged n zero = refl
ranged n (suc k) = ap (λ ns. n ∷ ns) (ap (λ m. range_with_len m k) (add-one n) ∙ ranged (suc n) k)

pub number-there : (ns : List ℕ) (k : ℕ) → has_number ns k ≡ true → Among k ns
number-there [] k e = absurd (cc)
number-there (n ∷ ns) k e = go (nat_eq k n) refl e (number-there ns k)
  where
    go : (y : Bool) → nat_eq k n ≡ y → (y || has_number ns k) ≡ true → (has_number ns k ≡ true → Among k ns) → Among k (n ∷ ns)
    go true q e ih = subst (λ z. Among k (z ∷ ns)) (eqb-true k n q) here
    go false q e ih = there (ih e)

pub lane-number : (v j k : ℕ) → VirtualLane v j ≡ VirtualLane v k → j ≡ k
lane-number v j k e = cc

pub map-length : {A B : Type 0} (g : A → B) (xs : List A) → length (map g xs) ≡ length xs
map-length g [] = refl
map-length g (y ∷ xs) = ap suc (map-length g xs)
