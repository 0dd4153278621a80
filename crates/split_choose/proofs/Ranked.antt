-- Points in order of their ranks: those from one on, and those up to one, are those of ranks that are as high, or as low.
use Rattle.std.proofs.Common.{◌≡◌, ◌∙◌, ◌⊎◌, inl, inr, ℕ, zero, suc, ◌+◌, ◌*◌, ◌<◌, ◌≤◌, Bool, true, false, cond, List, [], ◌∷◌, ◌++◌, refl, sym, ap, subst, arith, eq-eqb, eqb-true}
use Rattle.std.specs.Prelude.{nat_le, nat_eq, filter, ◌&&◌}
use Rattle.std.proofs.lemmas.Bool.{leb-true, le-leb, lt-leb, false≢true, true≢false}
use Rattle.meaning.specs.Live.{Among, here, there}
use Rattle.mir_meaning.specs.Points.{Point, Start, Entry, Exit}
use Rattle.split_choose.specs.Offers.{same_point, from_point, to_point}
use Rattle.split_choose.proofs.Covers.{among-cases}

-- one point

pub same-self : (p : Point) → same_point p p ≡ true
same-self (Start n) = eq-eqb n n refl
same-self (Entry n) = eq-eqb n n refl
same-self (Exit n) = eq-eqb n n refl

pub same-is : (p q : Point) → same_point p q ≡ true → p ≡ q
same-is (Start n) (Start m) e = ap (λ k. Start k) (eqb-true n m e)
same-is (Start n) (Entry m) e = absurd (false≢true e)
same-is (Start n) (Exit m) e = absurd (false≢true e)
same-is (Entry n) (Start m) e = absurd (false≢true e)
same-is (Entry n) (Entry m) e = ap (λ k. Entry k) (eqb-true n m e)
same-is (Entry n) (Exit m) e = absurd (false≢true e)
same-is (Exit n) (Start m) e = absurd (false≢true e)
same-is (Exit n) (Entry m) e = absurd (false≢true e)
same-is (Exit n) (Exit m) e = ap (λ k. Exit k) (eqb-true n m e)

pub among-left : {X : Type 0} (x : X) (xs ys : List X) → Among x xs → Among x (xs ++ ys)
among-left x [] ys m = elim m [ ]
among-left {X} x (z ∷ xs) ys m = go (among-cases x z xs m) (among-left x xs ys)
  where
    go : (x ≡ z) ⊎ Among x xs → (Among x xs → Among x (xs ++ ys)) → Among x (z ∷ (xs ++ ys))
    go (inl e) ih = let P : X → Type 0 = λ w. Among x (w ∷ (xs ++ ys)) in subst P e here
    go (inr n) ih = there (ih n)

pub among-right : {X : Type 0} (x : X) (xs ys : List X) → Among x ys → Among x (xs ++ ys)
among-right x [] ys m = m
among-right x (z ∷ xs) ys m = there (among-right x xs ys m)

filter-step : {X : Type 0} (f : X → Bool) (x : X) (xs : List X) → f x ≡ true → filter f (x ∷ xs) ≡ x ∷ filter f xs
filter-step f x xs e = rw e refl

filter-skip : {X : Type 0} (f : X → Bool) (x : X) (xs : List X) → f x ≡ false → filter f (x ∷ xs) ≡ filter f xs
filter-skip f x xs e = rw e refl

-- a filter of a filter
pub filter-twice : {X : Type 0} (f g : X → Bool) (xs : List X) → filter g (filter f xs) ≡ filter (λ x. f x && g x) xs
filter-twice f g [] = refl
filter-twice f g (x ∷ xs) = go (f x) refl (filter-twice f g xs)
  where
    go : (b : Bool) → f x ≡ b → filter g (filter f xs) ≡ filter (λ y. f y && g y) xs → filter g (filter f (x ∷ xs)) ≡ filter (λ y. f y && g y) (x ∷ xs)
    go false e ih = rw e ih
    go true e ih = by_second (g x) refl
      where
        by_second : (c : Bool) → g x ≡ c → filter g (filter f (x ∷ xs)) ≡ filter (λ y. f y && g y) (x ∷ xs)
        by_second true d = rw (e, d) (ap (λ ys. x ∷ ys) ih)
        by_second false d = rw (e, d) ih

module _ (rank : Point → ℕ) where
  -- the ranks rise along the points, from n on
  abbrev pub AreRanked : ℕ → List Point → Type 0
  AreRanked n [] = Unit {0}
  AreRanked n (p ∷ ps) = (n ≤ rank p) × AreRanked (suc (rank p)) ps

  pub ranked-from : (m n : ℕ) (ps : List Point) → n ≤ m → AreRanked m ps → AreRanked n ps
  ranked-from m n [] le r = tt
  ranked-from m n (p ∷ ps) le r = let a = r.0 in (omega (arith, a), r.1)

  pub ranked-above : (n : ℕ) (ps : List Point) (p : Point) → AreRanked n ps → Among p ps → n ≤ rank p
  ranked-above n [] p r m = elim m [ ]
  ranked-above n (q ∷ ps) p r m = go (among-cases p q ps m) (ranked-above (suc (rank q)) ps p r.1)
    where
      go : (p ≡ q) ⊎ Among p ps → (Among p ps → suc (rank q) ≤ rank p) → n ≤ rank p
      go (inl e) ih = let P : Point → Type 0 = λ x. n ≤ rank x in subst P (sym e) r.0
      go (inr h) ih = let a = r.0 in let b = ih h in omega (arith, a, b)

  all-from : (n m : ℕ) (ps : List Point) → m ≤ n → AreRanked n ps → filter (λ q. nat_le m (rank q)) ps ≡ ps
  all-from n m [] le r = refl
  all-from n m (p ∷ ps) le r =
      let a : n ≤ rank p = r.0 in
      filter-step (λ q. nat_le m (rank q)) p ps (le-leb m (rank p) (omega arith)) ∙ ap (λ qs. p ∷ qs) (all-from (suc (rank p)) m ps (omega arith) r.1)

  none-to : (n m : ℕ) (ps : List Point) → m < n → AreRanked n ps → filter (λ q. nat_le (rank q) m) ps ≡ []
  none-to n m [] lt r = refl
  none-to n m (p ∷ ps) lt r =
      let a : n ≤ rank p = r.0 in
      filter-skip (λ q. nat_le (rank q) m) p ps (lt-leb (rank p) m (omega arith)) ∙ none-to (suc (rank p)) m ps (omega arith) r.1

  -- those from a point on are those that don't rank below it
  pub from-ranked : (n : ℕ) (ps : List Point) (p : Point) → AreRanked n ps → Among p ps → filter (λ q. nat_le (rank p) (rank q)) ps ≡ from_point p ps
  from-ranked n [] p r m = elim m [ ]
  from-ranked n (q ∷ qs) p r m = go (same_point p q) refl (λ h. from-ranked (suc (rank q)) qs p r.1 h)
    where
      go : (b : Bool) → same_point p q ≡ b → (Among p qs → filter (λ x. nat_le (rank p) (rank x)) qs ≡ from_point p qs) → filter (λ x. nat_le (rank p) (rank x)) (q ∷ qs) ≡ from_point p (q ∷ qs)
      go true e ih =
          let same : p ≡ q = same-is p q e in
          let le : rank p ≤ rank q = (let P : Point → Type 0 = λ x. rank p ≤ rank x in subst P same (omega arith)) in
          rw e (filter-step (λ x. nat_le (rank p) (rank x)) q qs (le-leb (rank p) (rank q) le) ∙ ap (λ xs. q ∷ xs) (all-from (suc (rank q)) (rank p) qs (omega arith) r.1))
      go false e ih = by_place (among-cases p q qs m)
        where
          by_place : (p ≡ q) ⊎ Among p qs → filter (λ x. nat_le (rank p) (rank x)) (q ∷ qs) ≡ from_point p (q ∷ qs)
          by_place (inl f) = absurd (true≢false (sym (same-self p) ∙ (ap (same_point p) f ∙ e)))
          by_place (inr h) =
              let a = ranked-above (suc (rank q)) qs p r.1 h in
              rw e (filter-skip (λ x. nat_le (rank p) (rank x)) q qs (lt-leb (rank p) (rank q) (omega (arith, a))) ∙ ih h)

  -- those up to a point are those that don't rank above it
  pub to-ranked : (n : ℕ) (ps : List Point) (p : Point) → AreRanked n ps → Among p ps → filter (λ q. nat_le (rank q) (rank p)) ps ≡ to_point p ps
  to-ranked n [] p r m = elim m [ ]
  to-ranked n (q ∷ qs) p r m = go (same_point p q) refl (λ h. to-ranked (suc (rank q)) qs p r.1 h)
    where
      go : (b : Bool) → same_point p q ≡ b → (Among p qs → filter (λ x. nat_le (rank x) (rank p)) qs ≡ to_point p qs) → filter (λ x. nat_le (rank x) (rank p)) (q ∷ qs) ≡ to_point p (q ∷ qs)
      go true e ih =
          let same : p ≡ q = same-is p q e in
          let eq : rank p ≡ rank q = ap rank same in
          rw e (filter-step (λ x. nat_le (rank x) (rank p)) q qs (le-leb (rank q) (rank p) (omega arith)) ∙ ap (λ xs. q ∷ xs) (none-to (suc (rank q)) (rank p) qs (omega arith) r.1))
      go false e ih = by_place (among-cases p q qs m)
        where
          by_place : (p ≡ q) ⊎ Among p qs → filter (λ x. nat_le (rank x) (rank p)) (q ∷ qs) ≡ to_point p (q ∷ qs)
          by_place (inl f) = absurd (true≢false (sym (same-self p) ∙ (ap (same_point p) f ∙ e)))
          by_place (inr h) =
              let a = ranked-above (suc (rank q)) qs p r.1 h in
              rw e (filter-step (λ x. nat_le (rank x) (rank p)) q qs (le-leb (rank q) (rank p) (omega (arith, a))) ∙ ap (λ xs. q ∷ xs) (ih h))

  -- what is left from a point on is still in order, and has all later ones
  pub ranked-rest : (n : ℕ) (ps : List Point) (p : Point) → AreRanked n ps → AreRanked n (from_point p ps)
  ranked-rest n [] p r = tt
  ranked-rest n (q ∷ qs) p r = go (same_point p q) refl (ranked-from (suc (rank q)) n (from_point p qs) (let a = r.0 in omega (arith, a)) (ranked-rest (suc (rank q)) qs p r.1))
    where
      go : (b : Bool) → same_point p q ≡ b → AreRanked n (from_point p qs) → AreRanked n (from_point p (q ∷ qs))
      go true e ih = rw e r
      go false e ih = rw e ih

  pub later-among : (n : ℕ) (ps : List Point) (p q : Point) → AreRanked n ps → Among p ps → Among q ps → rank p ≤ rank q → Among q (from_point p ps)
  later-among n [] p q r m k le = elim m [ ]
  later-among n (x ∷ xs) p q r m k le = go (same_point p x) refl (λ a b. later-among (suc (rank x)) xs p q r.1 a b le)
    where
      go : (b : Bool) → same_point p x ≡ b → (Among p xs → Among q xs → Among q (from_point p xs)) → Among q (from_point p (x ∷ xs))
      go true e ih = rw e k
      go false e ih = by_place (among-cases p x xs m) (among-cases q x xs k)
        where
          by_place : (p ≡ x) ⊎ Among p xs → (q ≡ x) ⊎ Among q xs → Among q (from_point p (x ∷ xs))
          by_place (inl f) h = absurd (true≢false (sym (same-self p) ∙ (ap (same_point p) f ∙ e)))
          by_place (inr a) (inl f) = let b = ranked-above (suc (rank x)) xs p r.1 a in let g : rank q ≡ rank x = ap rank f in absurd (omega (arith, b, le, g))
          by_place (inr a) (inr b) = rw e (ih a b)

  -- from one point to another
  pub between-ranked : (n : ℕ) (ps : List Point) (p q : Point) → AreRanked n ps → Among p ps → Among q ps → rank p ≤ rank q
      → filter (λ x. nat_le (rank p) (rank x) && nat_le (rank x) (rank q)) ps ≡ to_point q (from_point p ps)
  between-ranked n ps p q r m k le =
      sym (filter-twice (λ x. nat_le (rank p) (rank x)) (λ x. nat_le (rank x) (rank q)) ps)
      ∙ (ap (filter (λ x. nat_le (rank x) (rank q))) (from-ranked n ps p r m)
      ∙ to-ranked n (from_point p ps) q (ranked-rest n ps p r) (later-among n ps p q r m k le))

-- points of lists one behind the other

from-same : (p q : Point) (qs : List Point) → same_point p q ≡ true → from_point p (q ∷ qs) ≡ q ∷ qs
from-same p q qs e = rw e refl

from-other : (p q : Point) (qs : List Point) → same_point p q ≡ false → from_point p (q ∷ qs) ≡ from_point p qs
from-other p q qs e = rw e refl

to-same : (p q : Point) (qs : List Point) → same_point p q ≡ true → to_point p (q ∷ qs) ≡ q ∷ []
to-same p q qs e = rw e refl

to-other : (p q : Point) (qs : List Point) → same_point p q ≡ false → to_point p (q ∷ qs) ≡ q ∷ to_point p qs
to-other p q qs e = rw e refl

-- the point stands among none of these
abbrev pub Lacks : Point → List Point → Type 0
Lacks p ps = Among p ps → ⊥

not-same : (p q : Point) (qs : List Point) → Lacks p (q ∷ qs) → same_point p q ≡ false
not-same p q qs n = go (same_point p q) refl
  where
    go : (b : Bool) → same_point p q ≡ b → same_point p q ≡ false
    go true e = let P : Point → Type 0 = λ x. Among p (x ∷ qs) in absurd (n (subst P (same-is p q e) here))
    go false e = e

pub from-in : (p : Point) (ps qs : List Point) → Among p ps → from_point p (ps ++ qs) ≡ from_point p ps ++ qs
from-in p [] qs m = elim m [ ]
from-in p (x ∷ ps) qs m = go (same_point p x) refl (from-in p ps qs)
  where
    go : (b : Bool) → same_point p x ≡ b → (Among p ps → from_point p (ps ++ qs) ≡ from_point p ps ++ qs) → from_point p (x ∷ (ps ++ qs)) ≡ from_point p (x ∷ ps) ++ qs
    go true e ih = rw e refl
    go false e ih = by_place (among-cases p x ps m)
      where
        by_place : (p ≡ x) ⊎ Among p ps → from_point p (x ∷ (ps ++ qs)) ≡ from_point p (x ∷ ps) ++ qs
        by_place (inl f) = absurd (true≢false (sym (same-self p) ∙ (ap (same_point p) f ∙ e)))
        by_place (inr a) = rw e (ih a)

pub from-past : (p : Point) (ps qs : List Point) → Lacks p ps → from_point p (ps ++ qs) ≡ from_point p qs
from-past p [] qs n = refl
from-past p (x ∷ ps) qs n = from-other p x (ps ++ qs) (not-same p x ps n) ∙ from-past p ps qs (λ m. n (there m))

pub to-in : (p : Point) (ps qs : List Point) → Among p ps → to_point p (ps ++ qs) ≡ to_point p ps
to-in p [] qs m = elim m [ ]
to-in p (x ∷ ps) qs m = go (same_point p x) refl (to-in p ps qs)
  where
    go : (b : Bool) → same_point p x ≡ b → (Among p ps → to_point p (ps ++ qs) ≡ to_point p ps) → to_point p (x ∷ (ps ++ qs)) ≡ to_point p (x ∷ ps)
    go true e ih = rw e refl
    go false e ih = by_place (among-cases p x ps m)
      where
        by_place : (p ≡ x) ⊎ Among p ps → to_point p (x ∷ (ps ++ qs)) ≡ to_point p (x ∷ ps)
        by_place (inl f) = absurd (true≢false (sym (same-self p) ∙ (ap (same_point p) f ∙ e)))
        by_place (inr a) = rw e (ap (λ ys. x ∷ ys) (ih a))

pub to-past : (p : Point) (ps qs : List Point) → Lacks p ps → to_point p (ps ++ qs) ≡ ps ++ to_point p qs
to-past p [] qs n = refl
to-past p (x ∷ ps) qs n = to-other p x (ps ++ qs) (not-same p x ps n) ∙ ap (λ ys. x ∷ ys) (to-past p ps qs (λ m. n (there m)))

-- a part that begins with a point of it has no other
pub lacks-rest : (p q : Point) (ps : List Point) → Lacks q ps → Lacks q (from_point p ps)
lacks-rest p q [] n = n
lacks-rest p q (x ∷ xs) n = go (same_point p x) refl (lacks-rest p q xs (λ m. n (there m)))
  where
    go : (b : Bool) → same_point p x ≡ b → Lacks q (from_point p xs) → Lacks q (from_point p (x ∷ xs))
    go true e ih = rw e n
    go false e ih = rw e ih

pub lacks-append : (p : Point) (ps qs : List Point) → Lacks p ps → Lacks p qs → Lacks p (ps ++ qs)
lacks-append p [] qs a b = b
lacks-append p (x ∷ ps) qs a b = λ m. go (among-cases p x (ps ++ qs) m) (lacks-append p ps qs (λ k. a (there k)) b)
  where
    go : (p ≡ x) ⊎ Among p (ps ++ qs) → Lacks p (ps ++ qs) → ⊥
    go (inl e) ih = let P : Point → Type 0 = λ y. Among p (y ∷ ps) in a (subst P e here)
    go (inr m) ih = ih m
