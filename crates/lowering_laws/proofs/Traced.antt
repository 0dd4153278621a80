-- Silent instructions of the second function, done one after the other, and the lanes that they leave alone.
use Rattle.std.proofs.Common.{◌≡◌, ◌∷◌, ◌++◌, ◌∙◌, ◌&&◌, ◌||◌, ℕ, ◌≤◌, Bool, true, false, cond, List, map, length, refl, ap, eq-eqb, arith, []}
use Rattle.std.specs.Prelude.{nat_eq}
use Rattle.meaning.specs.Code.{Code, Silent}
use Rattle.meaning.specs.Lanes.{Writes, filled, same_lane, settled, through}
use Rattle.meaning.specs.Live.{Among, here, there}
use Rattle.meaning.specs.Relations.{Rel, after_second}
use Rattle.meaning.specs.declared.types.Constant.{Constant}
use Rattle.meaning.specs.declared.types.Fill.TheVariants.{Moved}
use Rattle.meaning.specs.declared.types.Lane.{Lane}
use Rattle.meaning.specs.declared.types.Lane.TheVariants.{SlotLane, UnitLane, VirtualLane}
use Rattle.meaning.specs.declared.types.Source.{Source}
use Rattle.meaning.specs.declared.types.Source.TheVariants.{Bits, FromLane, Undef}
use Rattle.laws.proofs.Core.{Plan}
use Rattle.mir_meaning.specs.Items.{moved, undefined}
use Rattle.lowering_laws.proofs.Stretches.{Stretch, joined, nothing, second-silent}

-- where a source of after silent instructions with these writes, one after the other, stood before them
abbrev pub traced : List Writes → Source → Source
traced [] s = s
traced (ws ∷ wss) s = settled (through ws (traced wss s))

pub traced-append : (xs ys : List Writes) (s : Source) → traced (xs ++ ys) s ≡ traced xs (traced ys s)
traced-append [] ys s = refl
traced-append (ws ∷ xs) ys s = ap (λ q. settled (through ws q)) (traced-append xs ys s)

pub traced-undef : (xs : List Writes) → traced xs Undef ≡ Undef
traced-undef [] = refl
traced-undef (ws ∷ xs) = ap (λ q. settled (through ws q)) (traced-undef xs)

pub traced-bits : (xs : List Writes) (c : Constant) (low width : ℕ) → traced xs (Bits c low width) ≡ Bits c low width
traced-bits [] c low width = refl
traced-bits (ws ∷ xs) c low width = ap (λ q. settled (through ws q)) (traced-bits xs c low width)

pub settled-none : (s : Source) → settled (through [] s) ≡ s
settled-none (FromLane l) = refl
settled-none Undef = refl
settled-none (Bits c low width) = refl

pub traced-alone : (ws : Writes) (s : Source) → traced (ws ∷ []) s ≡ settled (through ws s)
traced-alone ws s = refl

abbrev pub silents : List Writes → Code
silents wss = map (λ ws. Silent [] ws) wss

module _ (K : Plan) where
  pub second-silents : (R : Rel) (wss : List Writes) → Stretch K R (λ s t. R s (traced wss t)) [] (silents wss)
  second-silents R [] = nothing K R
  second-silents R (ws ∷ wss) = joined K R (after_second ws R) (λ s t. R s (traced (ws ∷ wss) t)) [] (Silent [] ws ∷ []) [] (silents wss) (second-silent K R [] ws) (second-silents (after_second ws R) wss)

-- lanes that are written

abbrev pub is_written : Writes → Lane → Bool
is_written [] l = false
is_written (w ∷ ws) l = same_lane w.lane l || is_written ws l

pub filled-free : (ws : Writes) (l : Lane) → is_written ws l ≡ false → filled ws l ≡ Moved (FromLane l)
filled-free [] l e = refl
filled-free (w ∷ ws) l e = go (same_lane w.lane l) e (filled-free ws l)
  where
    go : (b : Bool) → (b || is_written ws l) ≡ false → (is_written ws l ≡ false → filled ws l ≡ Moved (FromLane l)) → cond b w.fill (filled ws l) ≡ Moved (FromLane l)
    go true e ih = absurd (cc)
    go false e ih = ih e

pub filled-left : (xs ys : Writes) (l : Lane) → is_written xs l ≡ true → filled (xs ++ ys) l ≡ filled xs l
filled-left [] ys l e = absurd (cc)
filled-left (w ∷ xs) ys l e = go (same_lane w.lane l) e (filled-left xs ys l)
  where
    go : (b : Bool) → (b || is_written xs l) ≡ true → (is_written xs l ≡ true → filled (xs ++ ys) l ≡ filled xs l) → cond b w.fill (filled (xs ++ ys) l) ≡ cond b w.fill (filled xs l)
    go true e ih = refl
    go false e ih = ih e

pub filled-right : (xs ys : Writes) (l : Lane) → is_written xs l ≡ false → filled (xs ++ ys) l ≡ filled ys l
filled-right [] ys l e = refl
filled-right (w ∷ xs) ys l e = go (same_lane w.lane l) e (filled-right xs ys l)
  where
    go : (b : Bool) → (b || is_written xs l) ≡ false → (is_written xs l ≡ false → filled (xs ++ ys) l ≡ filled ys l) → cond b w.fill (filled (xs ++ ys) l) ≡ filled ys l
    go true e ih = absurd (cc)
    go false e ih = ih e

pub written-append : (xs ys : Writes) (l : Lane) → is_written xs l ≡ false → is_written ys l ≡ false → is_written (xs ++ ys) l ≡ false
written-append [] ys l e h = h
written-append (w ∷ xs) ys l e h = go (same_lane w.lane l) e (λ k. written-append xs ys l k h)
  where
    go : (b : Bool) → (b || is_written xs l) ≡ false → (is_written xs l ≡ false → is_written (xs ++ ys) l ≡ false) → (b || is_written (xs ++ ys) l) ≡ false
    go true e ih = absurd (cc)
    go false e ih = ih e

-- lanes of one register

-- lanes of a register, by their numbers
abbrev pub lanes_by : ℕ → List ℕ → List Lane
lanes_by v ns = map (VirtualLane v) ns

abbrev pub is_lane_of : ℕ → Lane → Bool
is_lane_of v (VirtualLane w k) = nat_eq v w
is_lane_of v (UnitLane u) = false
is_lane_of v (SlotLane s k w) = false

other-lane : (v n : ℕ) (l : Lane) → is_lane_of v l ≡ false → same_lane (VirtualLane v n) l ≡ false
other-lane v n (VirtualLane w k) e = ap (λ b. b && nat_eq n k) e
other-lane v n (UnitLane u) e = refl
other-lane v n (SlotLane s k w) e = refl

pub moved-apart : (v : ℕ) (ns : List ℕ) (ss : List Source) (l : Lane) → is_lane_of v l ≡ false → is_written (moved false (lanes_by v ns) ss) l ≡ false
moved-apart v [] ss l e = refl
moved-apart v (n ∷ ns) [] l e = refl
moved-apart v (n ∷ ns) (s ∷ ss) l e = λ i. other-lane v n l e i || moved-apart v ns ss l e i

pub undefined-apart : (v : ℕ) (ns : List ℕ) (l : Lane) → is_lane_of v l ≡ false → is_written (undefined false (lanes_by v ns)) l ≡ false
undefined-apart v [] l e = refl
undefined-apart v (n ∷ ns) l e = λ i. other-lane v n l e i || undefined-apart v ns l e i

-- the number is one of them
abbrev pub is_one : List ℕ → ℕ → Bool
is_one [] k = false
is_one (n ∷ ns) k = nat_eq n k || is_one ns k

own-lane : (v n k : ℕ) → same_lane (VirtualLane v n) (VirtualLane v k) ≡ nat_eq n k
own-lane v n k = ap (λ b. b && nat_eq n k) (eq-eqb v v refl)

pub moved-beside : (v : ℕ) (ns : List ℕ) (ss : List Source) (k : ℕ) → is_one ns k ≡ false → is_written (moved false (lanes_by v ns) ss) (VirtualLane v k) ≡ false
moved-beside v [] ss k e = refl
moved-beside v (n ∷ ns) [] k e = refl
moved-beside v (n ∷ ns) (s ∷ ss) k e = ap (λ b. b || is_written (moved false (lanes_by v ns) ss) (VirtualLane v k)) (own-lane v n k) ∙ go (nat_eq n k) e (moved-beside v ns ss k)
  where
    go : (b : Bool) → (b || is_one ns k) ≡ false → (is_one ns k ≡ false → is_written (moved false (lanes_by v ns) ss) (VirtualLane v k) ≡ false) → (b || is_written (moved false (lanes_by v ns) ss) (VirtualLane v k)) ≡ false
    go true e ih = absurd (cc)
    go false e ih = ih e

pub undefined-beside : (v : ℕ) (ns : List ℕ) (k : ℕ) → is_one ns k ≡ false → is_written (undefined false (lanes_by v ns)) (VirtualLane v k) ≡ false
undefined-beside v [] k e = refl
undefined-beside v (n ∷ ns) k e = ap (λ b. b || is_written (undefined false (lanes_by v ns)) (VirtualLane v k)) (own-lane v n k) ∙ go (nat_eq n k) e (undefined-beside v ns k)
  where
    go : (b : Bool) → (b || is_one ns k) ≡ false → (is_one ns k ≡ false → is_written (undefined false (lanes_by v ns)) (VirtualLane v k) ≡ false) → (b || is_written (undefined false (lanes_by v ns)) (VirtualLane v k)) ≡ false
    go true e ih = absurd (cc)
    go false e ih = ih e

-- lane k of register v is given what lane k of register c is given, where both are given the same sources
pub record Given (v c : ℕ) (ns : List ℕ) (ss : List Source) (k : ℕ) : Type 0 where
  pub source : Source
  pub among : Among source ss
  pub one : (us : Writes) → filled (moved false (lanes_by v ns) ss ++ us) (VirtualLane v k) ≡ Moved source
  pub other : (us : Writes) → filled (moved false (lanes_by c ns) ss ++ us) (VirtualLane c k) ≡ Moved source

pub given-alike : (v c : ℕ) (ns : List ℕ) (ss : List Source) (k : ℕ) → length ns ≤ length ss → is_one ns k ≡ true → Given v c ns ss k
given-alike v c [] ss k h e = absurd (cc)
given-alike v c (n ∷ ns) [] k h e = absurd (omega arith)
given-alike v c (n ∷ ns) (s ∷ ss) k h e = go (nat_eq n k) refl e (given-alike v c ns ss k (omega arith))
  where
    at : (w : ℕ) (us : Writes) (b : Bool) → nat_eq n k ≡ b → filled (moved false (lanes_by w (n ∷ ns)) (s ∷ ss) ++ us) (VirtualLane w k) ≡ cond b (Moved s) (filled (moved false (lanes_by w ns) ss ++ us) (VirtualLane w k))
    at w us b q = ap (λ x. cond x (Moved s) (filled (moved false (lanes_by w ns) ss ++ us) (VirtualLane w k))) (own-lane w n k ∙ q)

    go : (b : Bool) → nat_eq n k ≡ b → (b || is_one ns k) ≡ true → (is_one ns k ≡ true → Given v c ns ss k) → Given v c (n ∷ ns) (s ∷ ss) k
    go true q e ih = record { source = s; among = here; one = λ us. at v us true q; other = λ us. at c us true q }
    go false q e ih = let z = ih e in record { source = z.source; among = there z.among; one = λ us. at v us false q ∙ z.one us; other = λ us. at c us false q ∙ z.other us }

-- a lane of register c that is made Undef
pub undefined-own : (c : ℕ) (ns : List ℕ) (us : Writes) (k : ℕ) → is_one ns k ≡ true → filled (undefined false (lanes_by c ns) ++ us) (VirtualLane c k) ≡ Moved Undef
undefined-own c [] us k e = absurd (cc)
undefined-own c (n ∷ ns) us k e =
    ap (λ x. cond x (Moved Undef) (filled (undefined false (lanes_by c ns) ++ us) (VirtualLane c k))) (own-lane c n k) ∙ go (nat_eq n k) e (undefined-own c ns us k)
  where
    go : (b : Bool) → (b || is_one ns k) ≡ true → (is_one ns k ≡ true → filled (undefined false (lanes_by c ns) ++ us) (VirtualLane c k) ≡ Moved Undef) → cond b (Moved Undef) (filled (undefined false (lanes_by c ns) ++ us) (VirtualLane c k)) ≡ Moved Undef
    go true e ih = refl
    go false e ih = ih e
