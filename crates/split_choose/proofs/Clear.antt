-- Tests of all points from one to another: over places in a row they come to the tests between neighbours.
use Rattle.std.proofs.Common.{◌≡◌, ◌∙◌, ℕ, zero, suc, ◌+◌, ◌-◌, ◌≤◌, List, [], ◌∷◌, Bool, true, false, refl, sym, ap, take, drop, arith}
use Rattle.std.specs.Prelude.{◌&&◌}
use Rattle.std.specs.List.{list_all, position_or_len}
use Rattle.mir_meaning.specs.Points.{Point}
use Rattle.split_choose.specs.Offers.{same_point, from_point, to_point}

and-assoc : (a b c : Bool) → ((a && b) && c) ≡ (a && (b && c))
and-assoc true b c = refl
and-assoc false b c = refl

and-twice : (a b c : Bool) → (a && (b && c)) ≡ ((a && b) && (b && c))
and-twice true true c = refl
and-twice true false c = refl
and-twice false b c = refl

and-true : (b : Bool) → (b && true) ≡ b
and-true true = refl
and-true false = refl

-- so many from an index on
abbrev pub all_from : {X : Type 0} → (X → Bool) → List X → ℕ → ℕ → Bool
all_from g xs a n = list_all g (take n (drop a xs))

drop-none : (X : Type 0) (n : ℕ) → drop {A = X} n [] ≡ []
drop-none X zero = refl
drop-none X (suc n) = refl

drop-add : {X : Type 0} (xs : List X) (a m : ℕ) → drop m (drop a xs) ≡ drop (a + m) xs
drop-add xs zero m = let e : m ≡ 0 + m = omega arith in ap (λ n. drop n xs) e
drop-add {X} [] (suc a) m = drop-none X m ∙ sym (drop-none X (suc a + m))
drop-add (x ∷ xs) (suc a) m = let e : suc a + m ≡ suc (a + m) = omega arith in drop-add xs a m ∙ sym (ap (λ n. drop n (x ∷ xs)) e)

split-all : {X : Type 0} (g : X → Bool) (xs : List X) (m n : ℕ) → list_all g (take (m + n) xs) ≡ (list_all g (take m xs) && list_all g (take n (drop m xs)))
split-all g [] zero zero = refl
split-all g [] zero (suc n) = let e : 0 + suc n ≡ suc n = omega arith in ap (λ k. list_all g (take k [])) e
split-all g [] (suc m) zero = let e : suc m + 0 ≡ suc (m + 0) = omega arith in ap (λ k. list_all g (take k [])) e
split-all g [] (suc m) (suc n) = let e : suc m + suc n ≡ suc (m + suc n) = omega arith in ap (λ k. list_all g (take k [])) e
split-all g (x ∷ xs) zero n = let e : 0 + n ≡ n = omega arith in ap (λ k. list_all g (take k (x ∷ xs))) e
split-all g (x ∷ xs) (suc m) n =
    let e : suc m + n ≡ suc (m + n) = omega arith in
    ap (λ k. list_all g (take k (x ∷ xs))) e ∙ (ap (λ b. g x && b) (split-all g xs m n) ∙ sym (and-assoc (g x) (list_all g (take m xs)) (list_all g (take n (drop m xs)))))

split-from : {X : Type 0} (g : X → Bool) (xs : List X) (a m n : ℕ) → all_from g xs a (m + n) ≡ (all_from g xs a m && all_from g xs (a + m) n)
split-from g xs a m n = split-all g (drop a xs) m n ∙ ap (λ ys. all_from g xs a m && list_all g (take n ys)) (drop-add xs a m)

-- from one index to another
abbrev pub all_to : {X : Type 0} → (X → Bool) → List X → ℕ → ℕ → Bool
all_to g xs a z = all_from g xs a (suc z - a)

-- two stretches that overlap, or meet
pub overlap : {X : Type 0} (g : X → Bool) (xs : List X) (a b c d : ℕ) → a ≤ b → b ≤ suc c → c ≤ d → all_to g xs a d ≡ (all_to g xs a c && all_to g xs b d)
overlap g xs a b c d ab bc cd =
    let first : suc c - a ≡ (b - a) + (suc c - b) = omega arith in
    let second : suc d - b ≡ (suc c - b) + (d - c) = omega arith in
    let all : suc d - a ≡ (b - a) + ((suc c - b) + (d - c)) = omega arith in
    let at : a + (b - a) ≡ b = omega arith in
    let one = ap (all_from g xs a) first ∙ (split-from g xs a (b - a) (suc c - b) ∙ ap (λ n. all_from g xs a (b - a) && all_from g xs n (suc c - b)) at) in
    let two = ap (all_from g xs b) second ∙ split-from g xs b (suc c - b) (d - c) in
    let three = ap (all_from g xs a) all ∙ (split-from g xs a (b - a) ((suc c - b) + (d - c)) ∙ (ap (λ n. all_from g xs a (b - a) && all_from g xs n ((suc c - b) + (d - c))) at
    ∙ ap (λ t. all_from g xs a (b - a) && t) (split-from g xs b (suc c - b) (d - c)))) in
    three ∙ (and-twice (all_from g xs a (b - a)) (all_from g xs b (suc c - b)) (all_from g xs (b + (suc c - b)) (d - c))
    ∙ sym (ap (λ t. t && all_to g xs b d) one ∙ ap (λ t. (all_from g xs a (b - a) && all_from g xs b (suc c - b)) && t) two))

-- places by the indexes of their entries and exits

abbrev pub last_exit : ℕ × ℕ → List (ℕ × ℕ) → ℕ
last_exit c [] = c.1
last_exit c (d ∷ ds) = last_exit d ds

-- each begins and ends at or behind where the one before it does, and before it ends itself
abbrev pub AreInTurn : ℕ × ℕ → List (ℕ × ℕ) → Type 0
AreInTurn c [] = Unit {0}
AreInTurn c (d ∷ ds) = (c.0 ≤ d.0) × (c.1 ≤ d.1) × (d.0 ≤ d.1) × AreInTurn d ds

-- from each entry to the exit of the next place
abbrev pub all_near : {X : Type 0} → (X → Bool) → List X → ℕ × ℕ → List (ℕ × ℕ) → Bool
all_near g xs c [] = true
all_near g xs c (d ∷ ds) = all_to g xs c.0 d.1 && all_near g xs d ds

last-behind : (c : ℕ × ℕ) (ds : List (ℕ × ℕ)) → AreInTurn c ds → c.1 ≤ last_exit c ds
last-behind c [] h = omega arith
last-behind c (d ∷ ds) h = let r = last-behind d ds h.3 in omega (arith, h.1)

-- a run is clear just where it is between all its neighbours
pub by-neighbours : {X : Type 0} (g : X → Bool) (xs : List X) (c d : ℕ × ℕ) (ds : List (ℕ × ℕ)) → AreInTurn c (d ∷ ds) → all_to g xs c.0 (last_exit d ds) ≡ all_near g xs c (d ∷ ds)
by-neighbours g xs c d [] h = sym (and-true (all_to g xs c.0 d.1))
by-neighbours g xs c d (e ∷ ds) h =
    let behind = last-behind d (e ∷ ds) h.3 in
    let inner : d.0 ≤ suc d.1 = omega (arith, h.2) in
    overlap g xs c.0 d.0 d.1 (last_exit e ds) h.0 inner behind ∙ ap (λ t. all_to g xs c.0 d.1 && t) (by-neighbours g xs d e ds h.3)

-- points of a list from one on, and up to one

take-none : (ps : List Point) → take 0 ps ≡ []
take-none [] = refl
take-none (p ∷ ps) = refl

pub from-is : (p : Point) (ps : List Point) → from_point p ps ≡ drop (position_or_len (same_point p) ps) ps
from-is p [] = refl
from-is p (q ∷ qs) = go (same_point p q) refl (from-is p qs)
  where
    go : (b : Bool) → same_point p q ≡ b → from_point p qs ≡ drop (position_or_len (same_point p) qs) qs → from_point p (q ∷ qs) ≡ drop (position_or_len (same_point p) (q ∷ qs)) (q ∷ qs)
    go true e ih = rw e refl
    go false e ih = let n : 1 + position_or_len (same_point p) qs ≡ suc (position_or_len (same_point p) qs) = omega arith in rw e (ih ∙ sym (ap (λ k. drop k (q ∷ qs)) n))

pub to-is : (p : Point) (ps : List Point) → to_point p ps ≡ take (suc (position_or_len (same_point p) ps)) ps
to-is p [] = refl
to-is p (q ∷ qs) = go (same_point p q) refl (to-is p qs)
  where
    go : (b : Bool) → same_point p q ≡ b → to_point p qs ≡ take (suc (position_or_len (same_point p) qs)) qs → to_point p (q ∷ qs) ≡ take (suc (position_or_len (same_point p) (q ∷ qs))) (q ∷ qs)
    go true e ih = rw e (ap (λ rs. q ∷ rs) (sym (take-none qs)))
    go false e ih = let n : 1 + position_or_len (same_point p) qs ≡ suc (position_or_len (same_point p) qs) = omega arith in rw e (ap (λ rs. q ∷ rs) (ih ∙ sym (ap (λ k. take k qs) n)))

-- the points from one to another, by their indexes: the first at which the one stands, and how much further the other first stands
pub stretch-is : (g : Point → Bool) (p q : Point) (ps : List Point) → list_all g (to_point q (from_point p ps))
    ≡ all_from g ps (position_or_len (same_point p) ps) (suc (position_or_len (same_point q) (drop (position_or_len (same_point p) ps) ps)))
stretch-is g p q ps = ap (λ rs. list_all g (to_point q rs)) (from-is p ps) ∙ ap (list_all g) (to-is q (drop (position_or_len (same_point p) ps) ps))
