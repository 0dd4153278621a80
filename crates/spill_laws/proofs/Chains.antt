-- Lanes that go through a tiny: what a store of its lanes behind a reload gives.
use Rattle.std.proofs.Common.{◌≡◌, ◌∷◌, ◌++◌, ◌∙◌, ◌&&◌, ◌||◌, ◌≤◌, ℕ, suc, zero, Bool, true, false, cond, List, length, map, refl, sym, ap, subst, arith, eq-eqb, eqb-true, []}
use Rattle.std.specs.Prelude.{nat_eq}
use Rattle.meaning.specs.Lanes.{Writes, filled, same_lane, settled, through}
use Rattle.meaning.specs.Live.{Among, here, there}
use Rattle.meaning.specs.declared.types.Fill.TheVariants.{Moved}
use Rattle.meaning.specs.declared.types.Lane.{Lane}
use Rattle.meaning.specs.declared.types.Lane.TheVariants.{SlotLane, UnitLane, VirtualLane}
use Rattle.meaning.specs.declared.types.Source.{Source}
use Rattle.meaning.specs.declared.types.Source.TheVariants.{FromLane}
use Rattle.mir_meaning.specs.Items.{moved}
use Rattle.mir_meaning.specs.Registers.{numbers}
use Rattle.std.proofs.lemmas.Bool.{ltb-true}
use Rattle.lowering_laws.proofs.Olds.{is_old}
use Rattle.lowering_laws.proofs.Traced.{is_lane_of, is_one, is_written, lanes_by}
use Rattle.instr_effects.proofs.Members.{map-of, member-elim, member-none}
use Rattle.spill_laws.proofs.SlotWrites.{source-among, source_at}

-- so many lanes of a register, from a number on
abbrev pub tiny_lanes : ℕ → ℕ → ℕ → List Lane
tiny_lanes c b n = lanes_by c (numbers b n)

number-low : (b n k : ℕ) → Among k (numbers b n) → b ≤ k
number-low b zero k m = absurd (member-none k m)
number-low b (suc n) k m = member-elim k b (numbers (suc b) n) (λ e. subst (λ z. b ≤ z) (sym e) (omega arith)) (λ j. let h = number-low (suc b) n k j in omega (arith, h)) m

tiny-source : (c b n : ℕ) (q : Source) → Among q (map FromLane (tiny_lanes c b n)) → (z : ℕ) × (b ≤ z) × (q ≡ FromLane (VirtualLane c z))
tiny-source c b n q m =
    let x = map-of FromLane q (tiny_lanes c b n) m in
    let y = map-of (VirtualLane c) x.0 (numbers b n) x.1 in
    (y.0, number-low b n y.0 y.1, x.2 ∙ ap FromLane y.2)

number-past : (b z : ℕ) → suc b ≤ z → nat_eq b z ≡ false
number-past b z h = go (nat_eq b z) refl
  where
    go : (y : Bool) → nat_eq b z ≡ y → nat_eq b z ≡ false
    go false e = e
    go true e = let q = eqb-true b z e in absurd (omega (arith, h, q))

lane-past : (c b z : ℕ) → suc b ≤ z → same_lane (VirtualLane c b) (VirtualLane c z) ≡ false
lane-past c b z h = ap (λ y. y && nat_eq b z) (eq-eqb c c refl) ∙ number-past b z h

lane-same : (c b : ℕ) → same_lane (VirtualLane c b) (VirtualLane c b) ≡ true
lane-same c b = ap (λ y. y && nat_eq b b) (eq-eqb c c refl) ∙ eq-eqb b b refl

pub count-lanes : (c b : ℕ) (ks : List ℕ) → length ks ≤ length (map FromLane (tiny_lanes c b (length ks)))
count-lanes c b [] = omega arith
count-lanes c b (k ∷ ks) = let h = count-lanes c (suc b) ks in omega (arith, h)

-- the source beside a number, through a tiny
pub passed-source : (c b : ℕ) (ks : List ℕ) (us : List Source) (k : ℕ) → length ks ≤ length us → is_one ks k ≡ true
    → settled (through (moved false (tiny_lanes c b (length ks)) us) (source_at ks (map FromLane (tiny_lanes c b (length ks))) k)) ≡ source_at ks us k
passed-source c b [] us k h e = absurd (cc)
passed-source c b (j ∷ ks) [] k h e = absurd (omega arith)
passed-source c b (j ∷ ks) (u ∷ us) k h e = go (nat_eq j k) e (passed-source c (suc b) ks us k (omega (arith, h)))
  where
    past : (q : Source) → Among q (map FromLane (tiny_lanes c (suc b) (length ks))) → settled (through (moved false (tiny_lanes c b (length (j ∷ ks))) (u ∷ us)) q) ≡ settled (through (moved false (tiny_lanes c (suc b) (length ks)) us) q)
    past q m =
        let z = tiny-source c (suc b) (length ks) q m in
        ap (λ y. settled (through (moved false (tiny_lanes c b (length (j ∷ ks))) (u ∷ us)) y)) z.2
        ∙ (ap (λ y. settled (cond y (Moved u) (filled (moved false (tiny_lanes c (suc b) (length ks)) us) (VirtualLane c z.0)))) (lane-past c b z.0 z.1)
        ∙ ap (λ y. settled (through (moved false (tiny_lanes c (suc b) (length ks)) us) y)) (sym z.2))

    go : (y : Bool) → (y || is_one ks k) ≡ true
        → (is_one ks k ≡ true → settled (through (moved false (tiny_lanes c (suc b) (length ks)) us) (source_at ks (map FromLane (tiny_lanes c (suc b) (length ks))) k)) ≡ source_at ks us k)
        → settled (through (moved false (tiny_lanes c b (length (j ∷ ks))) (u ∷ us)) (cond y (FromLane (VirtualLane c b)) (source_at ks (map FromLane (tiny_lanes c (suc b) (length ks))) k))) ≡ cond y u (source_at ks us k)
    go true g ih = ap (λ y. settled (cond y (Moved u) (filled (moved false (tiny_lanes c (suc b) (length ks)) us) (VirtualLane c b)))) (lane-same c b)
    go false g ih =
        past (source_at ks (map FromLane (tiny_lanes c (suc b) (length ks))) k) (source-among ks (map FromLane (tiny_lanes c (suc b) (length ks))) k (count-lanes c (suc b) ks) g) ∙ ih g

-- a lane of an old register isn't one of a further register
pub old-apart : (n c : ℕ) (a : Lane) → n ≤ c → is_old n a ≡ true → is_lane_of c a ≡ false
old-apart n c (UnitLane u) h e = refl
old-apart n c (SlotLane s k w) h e = refl
old-apart n c (VirtualLane w k) h e = go (nat_eq c w) refl
  where
    go : (y : Bool) → nat_eq c w ≡ y → nat_eq c w ≡ false
    go false g = g
    go true g = let q = eqb-true c w g in let r = ltb-true w n e in absurd (omega (arith, h, q, r))

-- two lists of sources by numbers: beside one number stand sources from the same place
pub record Pair (F G : ℕ → Source) (ks os : List ℕ) (k : ℕ) : Type 0 where
  pub number : ℕ
  pub among : Among number os
  pub first : source_at ks (map F os) k ≡ F number
  pub second : source_at ks (map G os) k ≡ G number

pub pair-at : (F G : ℕ → Source) (ks os : List ℕ) (k : ℕ) → length ks ≤ length os → is_one ks k ≡ true → Pair F G ks os k
pair-at F G [] os k h e = absurd (cc)
pair-at F G (j ∷ ks) [] k h e = absurd (omega arith)
pair-at F G (j ∷ ks) (o ∷ os) k h e = go (nat_eq j k) refl e (pair-at F G ks os k (omega (arith, h)))
  where
    go : (y : Bool) → nat_eq j k ≡ y → (y || is_one ks k) ≡ true → (is_one ks k ≡ true → Pair F G ks os k) → Pair F G (j ∷ ks) (o ∷ os) k
    go true g f ih = record { number = o; among = here; first = ap (λ y. cond y (F o) (source_at ks (map F os) k)) g; second = ap (λ y. cond y (G o) (source_at ks (map G os) k)) g }
    go false g f ih =
        let z = ih f in
        record { number = z.number; among = there z.among; first = ap (λ y. cond y (F o) (source_at ks (map F os) k)) g ∙ z.first; second = ap (λ y. cond y (G o) (source_at ks (map G os) k)) g ∙ z.second }

-- Lanes that are given sources by numbers, and the same through a tiny: a lane gets nothing of both, or by both from the same place.
module _ (F G : ℕ → Source) (c : ℕ) where
  pub data Linked (b : ℕ) (ks : List ℕ) (xs ys loads : Writes) (a : Lane) : Type 0 where
    none : is_written xs a ≡ false → is_written ys a ≡ false → Linked b ks xs ys loads a
    both : (j z : ℕ) → Among j ks → b ≤ z → ((us : Writes) → filled (xs ++ us) a ≡ Moved (F j)) → ((us : Writes) → filled (ys ++ us) a ≡ Moved (FromLane (VirtualLane c z)))
        → filled loads (VirtualLane c z) ≡ Moved (G j) → Linked b ks xs ys loads a

  pub linked : (e d : Bool) (b : ℕ) (ls : List Lane) (ks : List ℕ) (a : Lane)
      → Linked b ks (moved e ls (map F ks)) (moved d ls (map FromLane (tiny_lanes c b (length ks)))) (moved false (tiny_lanes c b (length ks)) (map G ks)) a
  linked e d b [] ks a = none refl refl
  linked e d b (l ∷ ls) [] a = none refl refl
  linked e d b (l ∷ ls) (k ∷ ks) a = go (same_lane l a) refl (linked e d (suc b) ls ks a)
    where
      go : (y : Bool) → same_lane l a ≡ y → Linked (suc b) ks (moved e ls (map F ks)) (moved d ls (map FromLane (tiny_lanes c (suc b) (length ks)))) (moved false (tiny_lanes c (suc b) (length ks)) (map G ks)) a
          → Linked b (k ∷ ks) (moved e (l ∷ ls) (map F (k ∷ ks))) (moved d (l ∷ ls) (map FromLane (tiny_lanes c b (length (k ∷ ks))))) (moved false (tiny_lanes c b (length (k ∷ ks))) (map G (k ∷ ks))) a
      go true g x =
          both k b here (omega arith)
          (λ us. ap (λ y. cond y (Moved (F k)) (filled (moved e ls (map F ks) ++ us) a)) g)
          (λ us. ap (λ y. cond y (Moved (FromLane (VirtualLane c b))) (filled (moved d ls (map FromLane (tiny_lanes c (suc b) (length ks))) ++ us) a)) g)
          (ap (λ y. cond y (Moved (G k)) (filled (moved false (tiny_lanes c (suc b) (length ks)) (map G ks)) (VirtualLane c b))) (lane-same c b))
      go false g (none x y) =
          none (ap (λ u. u || is_written (moved e ls (map F ks)) a) g ∙ x) (ap (λ u. u || is_written (moved d ls (map FromLane (tiny_lanes c (suc b) (length ks)))) a) g ∙ y)
      go false g (both j z m h x y v) =
          both j z (there m) (omega (arith, h))
          (λ us. ap (λ u. cond u (Moved (F k)) (filled (moved e ls (map F ks) ++ us) a)) g ∙ x us)
          (λ us. ap (λ u. cond u (Moved (FromLane (VirtualLane c b))) (filled (moved d ls (map FromLane (tiny_lanes c (suc b) (length ks))) ++ us) a)) g ∙ y us)
          (ap (λ u. cond u (Moved (G k)) (filled (moved false (tiny_lanes c (suc b) (length ks)) (map G ks)) (VirtualLane c z))) (lane-past c b z h) ∙ v)

-- the source beside a number among those of the same numbers
pub self-source : (F : ℕ → Source) (ks : List ℕ) (k : ℕ) → is_one ks k ≡ true → source_at ks (map F ks) k ≡ F k
self-source F [] k e = absurd (cc)
self-source F (j ∷ ks) k e = go (nat_eq j k) refl e (self-source F ks k)
  where
    go : (y : Bool) → nat_eq j k ≡ y → (y || is_one ks k) ≡ true → (is_one ks k ≡ true → source_at ks (map F ks) k ≡ F k) → source_at (j ∷ ks) (map F (j ∷ ks)) k ≡ F k
    go true g f ih = ap (λ y. cond y (F j) (source_at ks (map F ks) k)) g ∙ ap F (eqb-true j k g)
    go false g f ih = ap (λ y. cond y (F j) (source_at ks (map F ks) k)) g ∙ ih f

pub map-long : {A B : Type 0} (h : A → B) (xs : List A) → length xs ≤ length (map h xs)
map-long h [] = omega arith
map-long h (x ∷ xs) = let g = map-long h xs in omega (arith, g)
