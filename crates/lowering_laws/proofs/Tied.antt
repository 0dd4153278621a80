-- A copy into lanes of a register, and registers and indexes that are tested to be one.
use Rattle.std.proofs.Common.{◌≡◌, ◌∷◌, ◌∙◌, ◌&&◌, ℕ, suc, Bool, true, false, cond, List, Option, Some, None, map, length, refl, ap, subst, eqb-true, eq-eqb, []}
use Rattle.std.specs.Prelude.{nat_eq}
use Rattle.target_base.specs.declared.types.IndexId.{IndexId}
use Rattle.target_base.specs.declared.types.Target.{Target}
use Rattle.target_base.specs.Registers.{lanes_of}
use Rattle.meaning.specs.Lanes.{Writes, filled, same_lane}
use Rattle.meaning.specs.Live.{Among, here, there}
use Rattle.meaning.specs.Relations.{AlikeReads, Rel}
use Rattle.meaning.specs.declared.types.Fill.TheVariants.{Moved}
use Rattle.meaning.specs.declared.types.Lane.TheVariants.{VirtualLane}
use Rattle.meaning.specs.declared.types.Source.{Source}
use Rattle.meaning.specs.declared.types.Source.TheVariants.{FromLane}
use Rattle.mir_func.specs.declared.func.Loc.{Loc}
use Rattle.mir_func.specs.declared.func.Loc.TheVariants.{Fixed, Virtual}
use Rattle.mir_func.specs.Value.{Function}
use Rattle.mir_func.specs.Binding.{same_index, same_loc}
use Rattle.mir_meaning.specs.Registers.{located_lanes, numbers, range_widths}
use Rattle.mir_meaning.specs.Items.{moved}
use Rattle.live_laws.proofs.Effects.Lists.{lanes-apart, numbers-apart}
use Rattle.live_laws.proofs.Effects.Moved.{Apart}
use Rattle.lowering_laws.proofs.Traced.{lanes_by}

-- a copy into lanes that are apart

abbrev Gives : Writes → ℕ → List ℕ → List Source → Type 0
Gives ws v [] [] = Unit {0}
Gives ws v (k ∷ ks) (s ∷ ss) = (filled ws (VirtualLane v k) ≡ Moved s) × Gives ws v ks ss
Gives ws v [] (s ∷ ss) = ⊥
Gives ws v (k ∷ ks) [] = ⊥

own-lane : (v n k : ℕ) → same_lane (VirtualLane v n) (VirtualLane v k) ≡ nat_eq n k
own-lane v n k = ap (λ b. b && nat_eq n k) (eq-eqb v v refl)

gives-behind : (v n : ℕ) (x : Source) (ws : Writes) (ks : List ℕ) (ss : List Source) → (Among n ks → ⊥) → Gives ws v ks ss → Gives (record { lane = VirtualLane v n; fill = Moved x; early = false } ∷ ws) v ks ss
gives-behind v n x ws [] [] a g = tt
gives-behind v n x ws [] (s ∷ ss) a g = absurd (g)
gives-behind v n x ws (k ∷ ks) [] a g = absurd (g)
gives-behind v n x ws (k ∷ ks) (s ∷ ss) a g = ((λ j. cond ((own-lane v n k ∙ differs (nat_eq n k) refl) j) (Moved x) (filled ws (VirtualLane v k))) ∙ g.0, gives-behind v n x ws ks ss (λ m. a (there m)) g.1)
  where
    differs : (y : Bool) → nat_eq n k ≡ y → nat_eq n k ≡ false
    differs false e = e
    differs true e = absurd (a (subst (λ z. Among n (z ∷ ks)) (eqb-true n k e) here))

gives-all : (v : ℕ) (ks : List ℕ) (ss : List Source) → Apart ks → length ks ≡ length ss → Gives (moved false (lanes_by v ks) ss) v ks ss
gives-all v [] [] a e = tt
gives-all v [] (s ∷ ss) a e = absurd (cc)
gives-all v (k ∷ ks) [] a e = absurd (cc)
gives-all v (k ∷ ks) (s ∷ ss) a e = (ap (λ y. cond y (Moved s) (filled (moved false (lanes_by v ks) ss) (VirtualLane v k))) (own-lane v k k ∙ eq-eqb k k refl), gives-behind v k s (moved false (lanes_by v ks) ss) ks ss a.0 (gives-all v ks ss a.1 (less (length ks) (length ss) e)))
  where
    less : (a b : ℕ) → suc a ≡ suc b → a ≡ b
    less a b q = cc

-- the numbers of the lanes of a virtual register
pub lane_numbers : Target → Function → ℕ → Option IndexId → List ℕ
lane_numbers t f v None = numbers 0 (length (range_widths t f v))
lane_numbers t f v (Some x) = lanes_of t x

pub lanes-numbered : (t : Target) (f : Function) (v : ℕ) (x : Option IndexId) → located_lanes t f (Virtual v) x ≡ lanes_by v (lane_numbers t f v x)
unfolding lane_numbers
lanes-numbered t f v None = refl
lanes-numbered t f v (Some x) = refl

pub numbers-distinct : (t : Target) (f : Function) (v : ℕ) (x : Option IndexId) → Apart (lane_numbers t f v x)
unfolding lane_numbers
numbers-distinct t f v None = numbers-apart 0 (length (range_widths t f v))
numbers-distinct t f v (Some x) = lanes-apart t x

-- behind the copy the lanes hold what it gave
pub copied-reads : (R : Rel) (ws : Writes) (v : ℕ) (ks : List ℕ) (ss : List Source) → ((k : ℕ) (s : Source) → Among k ks → Among s ss → filled ws (VirtualLane v k) ≡ Moved s → R s (FromLane (VirtualLane v k))) → Gives ws v ks ss → AlikeReads R ss (map FromLane (lanes_by v ks))
copied-reads R ws v [] [] h g = tt
copied-reads R ws v [] (s ∷ ss) h g = absurd (g)
copied-reads R ws v (k ∷ ks) [] h g = absurd (g)
copied-reads R ws v (k ∷ ks) (s ∷ ss) h g = (h k s here here g.0, copied-reads R ws v ks ss (λ j x i m q. h j x (there i) (there m) q) g.1)

pub gives-lanes : (v : ℕ) (ks : List ℕ) (ss : List Source) → Apart ks → length ks ≡ length ss → Gives (moved false (lanes_by v ks) ss) v ks ss
gives-lanes v ks ss a e = gives-all v ks ss a e

-- registers and indexes that are tested to be one

pub one-loc : (l m : Loc) → same_loc l m ≡ true → l ≡ m
one-loc (Virtual v) (Virtual w) e = ap Virtual (eqb-true v w e)
one-loc (Fixed r) (Fixed q) e = λ k. Fixed (record { 0 = eqb-true r.0 q.0 e k })
one-loc (Virtual v) (Fixed q) e = absurd (cc)
one-loc (Fixed r) (Virtual w) e = absurd (cc)

pub one-index : (x y : Option IndexId) → same_index x y ≡ true → x ≡ y
one-index None None e = refl
one-index (Some x) (Some y) e = λ k. Some (record { 0 = eqb-true x.0 y.0 e k })
one-index None (Some y) e = absurd (cc)
one-index (Some x) None e = absurd (cc)
