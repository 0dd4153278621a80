-- The walk from the rest of a block lists just the blocks that what stands there enters.
use Rattle.std.proofs.Common.{◌≡◌, ◌∙◌, ℕ, zero, suc, ◌+◌, ◌<◌, ◌≤◌, Bool, true, false, cond, not, ◌&&◌, ◌||◌, List, [], ◌∷◌, ◌++◌, Some, length, get_or, take, refl, sym, ap, subst, inl, inr, arith, eqb-true}
use Rattle.std.proofs.Math.ListN.{set}
use Rattle.std.proofs.lemmas.List.{take_more}
use Rattle.std.specs.Prelude.{◌↔◌, nat_eq, slice_get}
use Rattle.target_base.proofs.Tests.{first_of_both, second_of_both}
use Rattle.mir_meaning.specs.Paths.{has}
use Rattle.live_laws.proofs.Touch.Cells.{or-left, or-cases}
use Rattle.spiller.specs.declared.reaching.BlockTouches.{BlockTouches}
use Rattle.spiller.specs.declared.reaching.LaneTouch.{LaneTouch}
use Rattle.spiller.specs.Walks.{is_open, keeps, touches_at, Spreads, Enters, leaves, goes_on}

-- numbers in lists

pub has-join : (q : ℕ) (xs ys : List ℕ) → has q (xs ++ ys) ≡ (has q xs || has q ys)
has-join q [] ys = refl
has-join q (x ∷ xs) ys = step (nat_eq x q) (has-join q xs ys)
  where
    step : (b : Bool) → has q (xs ++ ys) ≡ (has q xs || has q ys) → cond b true (has q (xs ++ ys)) ≡ (cond b true (has q xs) || has q ys)
    step true e = refl
    step false e = e

has-at : (xs : List ℕ) (j r : ℕ) → slice_get xs j ≡ Some r → has r xs ≡ true
has-at [] j r e = absurd (cc)
has-at (x ∷ xs) zero r e = let same : x ≡ r = cc in ap (λ b. cond b true (has r xs)) (is-same x r same)
  where
    is-same : (x r : ℕ) → x ≡ r → nat_eq x r ≡ true
    is-same x r e = grind arith
has-at (x ∷ xs) (suc j) r e = step (nat_eq x r) (has-at xs j r e)
  where
    step : (b : Bool) → has r xs ≡ true → cond b true (has r xs) ≡ true
    step true h = refl
    step false h = h

at-has : (xs : List ℕ) (r : ℕ) → has r xs ≡ true → (j : ℕ) × (j < length xs) × (slice_get xs j ≡ Some r)
at-has [] r h = absurd (cc)
at-has (x ∷ xs) r h = go (nat_eq x r) refl h (at-has xs r)
  where
    go : (b : Bool) → nat_eq x r ≡ b → cond b true (has r xs) ≡ true → (has r xs ≡ true → (j : ℕ) × (j < length xs) × (slice_get xs j ≡ Some r)) → (j : ℕ) × (j < length (x ∷ xs)) × (slice_get (x ∷ xs) j ≡ Some r)
    go true e h ih = (0, omega arith, ap Some (eqb-true x r e))
    go false e h ih = let z = ih h in (suc z.0, omega arith, z.2)

front-at : (xs ys : List ℕ) (j : ℕ) → j < length xs → slice_get (xs ++ ys) j ≡ slice_get xs j
front-at [] ys j h = absurd (omega arith)
front-at (x ∷ xs) ys zero h = refl
front-at (x ∷ xs) ys (suc j) h = front-at xs ys j (omega arith)

got-at : (xs : List ℕ) (j : ℕ) → j < length xs → slice_get xs j ≡ Some (get_or xs j 0)
got-at [] j h = absurd (omega arith)
got-at (x ∷ xs) zero h = refl
got-at (x ∷ xs) (suc j) h = got-at xs j (omega arith)

same-default : (xs : List ℕ) (j d e : ℕ) → j < length xs → get_or xs j d ≡ get_or xs j e
same-default [] j d e h = absurd (omega arith)
same-default (x ∷ xs) zero d e h = refl
same-default (x ∷ xs) (suc j) d e h = same-default xs j d e (omega arith)

-- tests

marks-more : (d w n : Bool) → ((d && not w) && not n) ≡ (d && not (w || ((d && not w) && n)))
marks-more true true true = refl
marks-more true true false = refl
marks-more true false true = refl
marks-more true false false = refl
marks-more false w n = refl

found-more : (d w n : Bool) → d ≡ true → n ≡ true → (w || ((d && not w) && n)) ≡ true
found-more true true true e h = refl
found-more true false true e h = refl
found-more false w n e h = absurd (cc)
found-more true w false e h = absurd (cc)

found-both : (o a b : Bool) → ((o && a) || ((o && not a) && b)) ≡ (o && (a || b))
found-both true true b = refl
found-both true false b = refl
found-both false a b = refl

marked-both : (o a b : Bool) → ((o && not a) && not b) ≡ (o && not (a || b))
marked-both true true b = refl
marked-both true false b = refl
marked-both false a b = refl

has-none : (o : Bool) → false ≡ (o && false)
has-none true = refl
has-none false = refl

open-none : (o : Bool) → o ≡ (o && not false)
open-none true = refl
open-none false = refl

append-none : {X : Type 0} (xs : List X) → xs ≡ xs ++ []
append-none [] = refl
append-none (x ∷ xs) = ap (λ ys. x ∷ ys) (append-none xs)

append-append : {X : Type 0} (xs ys zs : List X) → (xs ++ ys) ++ zs ≡ xs ++ (ys ++ zs)
append-append [] ys zs = refl
append-append (x ∷ xs) ys zs = ap (λ us. x ∷ us) (append-append xs ys zs)

-- blocks are entered one after the other

pub spread-none : (marks : List Bool) (work : List ℕ) → Spreads marks work marks work []
spread-none marks work = record { more = []; grown = append-none work; found = λ q. has-none (is_open marks q); marked = λ q. open-none (is_open marks q) }

pub spread-both : (marks marks' marks'' : List Bool) (work work' work'' ns ms : List ℕ) → Spreads marks work marks' work' ns → Spreads marks' work' marks'' work'' ms → Spreads marks work marks'' work'' (ns ++ ms)
spread-both marks marks' marks'' work work' work'' ns ms one two = record {
  more = one.more ++ two.more;
  grown = two.grown ∙ ap (λ xs. xs ++ two.more) one.grown ∙ append-append work one.more two.more;
  found = λ q.
      has-join q one.more two.more
      ∙ ap (λ b. b || has q two.more) (one.found q)
      ∙ ap (λ b. (is_open marks q && has q ns) || b) (two.found q ∙ ap (λ b. b && has q ms) (one.marked q))
      ∙ found-both (is_open marks q) (has q ns) (has q ms)
      ∙ ap (λ b. is_open marks q && b) (sym (has-join q ns ms));
  marked = λ q.
      two.marked q ∙ ap (λ b. b && not (has q ms)) (one.marked q)
      ∙ marked-both (is_open marks q) (has q ns) (has q ms)
      ∙ ap (λ b. is_open marks q && not b) (sym (has-join q ns ms));
}

pub spread-more : (marks marks' marks'' : List Bool) (work work' work'' ns : List ℕ) (k : ℕ) → k < length ns → Spreads marks work marks' work' (take k ns) → Spreads marks' work' marks'' work'' (get_or ns k 0 ∷ []) → Spreads marks work marks'' work'' (take (k + 1) ns)
spread-more marks marks' marks'' work work' work'' ns k h one two =
    subst (Spreads marks work marks'' work'') (sym (take_more ns k 0 h)) (spread-both marks marks' marks'' work work' work'' (take k ns) (get_or ns k 0 ∷ []) one two)

-- one that isn't open stays as it is

pub spread-closed : (marks : List Bool) (work : List ℕ) (n : ℕ) → is_open marks n ≡ false → Spreads marks work marks work (n ∷ [])
spread-closed marks work n closed = record { more = []; grown = append-none work; found = λ q. go-found q (nat_eq n q) refl; marked = λ q. go-marked q (nat_eq n q) refl }
  where
    go-found : (q : ℕ) (b : Bool) → nat_eq n q ≡ b → false ≡ (is_open marks q && cond (nat_eq n q) true false)
    go-found q true e = let same : n ≡ q = eqb-true n q e in let c : is_open marks q ≡ false = subst (λ m. is_open marks m ≡ false) same closed in rw c refl
    go-found q false e = rw e (has-none (is_open marks q))

    go-marked : (q : ℕ) (b : Bool) → nat_eq n q ≡ b → is_open marks q ≡ (is_open marks q && not (cond (nat_eq n q) true false))
    go-marked q true e = let same : n ≡ q = eqb-true n q e in let c : is_open marks q ≡ false = subst (λ m. is_open marks m ≡ false) same closed in rw c refl
    go-marked q false e = rw e (open-none (is_open marks q))

-- one that is open is marked and listed

pub past-closed : (marks : List Bool) (n : ℕ) → length marks ≤ n → is_open marks n ≡ false
past-closed [] n h = refl
past-closed (m ∷ marks) zero h = absurd (omega arith)
past-closed (m ∷ marks) (suc n) h = past-closed marks n (omega arith)

pub marked-closed : (marks : List Bool) (n : ℕ) (d : Bool) → n < length marks → get_or marks n d ≡ true → is_open marks n ≡ false
marked-closed [] n d h e = absurd (omega arith)
marked-closed (m ∷ marks) zero d h e = ap not e
marked-closed (m ∷ marks) (suc n) d h e = marked-closed marks n d (omega arith) e

free-open : (marks : List Bool) (n : ℕ) (d : Bool) → n < length marks → get_or marks n d ≡ false → is_open marks n ≡ true
free-open [] n d h e = absurd (omega arith)
free-open (m ∷ marks) zero d h e = ap not e
free-open (m ∷ marks) (suc n) d h e = free-open marks n d (omega arith) e

zero-suc : (q : ℕ) → nat_eq 0 (suc q) ≡ false
zero-suc q = grind arith

suc-zero : (n : ℕ) → nat_eq (suc n) 0 ≡ false
suc-zero n = grind arith

suc-suc : (n q : ℕ) → nat_eq (suc n) (suc q) ≡ nat_eq n q
suc-suc n q = grind arith

open-set : (marks : List Bool) (n q : ℕ) → is_open (set marks n true) q ≡ (is_open marks q && not (cond (nat_eq n q) true false))
open-set [] n q = refl
open-set (m ∷ marks) zero zero = both m
  where
    both : (m : Bool) → false ≡ (not m && false)
    both true = refl
    both false = refl
open-set (m ∷ marks) zero (suc q) = open-none (is_open marks q) ∙ ap (λ b. is_open marks q && not (cond b true false)) (sym (zero-suc q))
open-set (m ∷ marks) (suc n) zero = open-none (not m) ∙ ap (λ b. not m && not (cond b true false)) (sym (suc-zero n))
open-set (m ∷ marks) (suc n) (suc q) = open-set marks n q ∙ ap (λ b. is_open marks q && not (cond b true false)) (sym (suc-suc n q))

pub spread-open : (marks marks' : List Bool) (work work' : List ℕ) (n : ℕ) (d : Bool) → n < length marks → get_or marks n d ≡ false → marks' ≡ set marks n true → work' ≡ work ++ n ∷ [] → Spreads marks work marks' work' (n ∷ [])
spread-open marks marks' work work' n d h free m w = record {
  more = n ∷ [];
  grown = w;
  found = λ q. go q (nat_eq n q) refl;
  marked = λ q. ap (λ xs. is_open xs q) m ∙ open-set marks n q;
}
  where
    yes : (b : Bool) → b ≡ true → true ≡ (b && true)
    yes true e = refl
    yes false e = absurd (cc)

    go : (q : ℕ) (b : Bool) → nat_eq n q ≡ b → cond (nat_eq n q) true false ≡ (is_open marks q && cond (nat_eq n q) true false)
    go q true e = let same : n ≡ q = eqb-true n q e in rw e (yes (is_open marks q) (subst (λ x. is_open marks x ≡ true) same (free-open marks n d h free)))
    go q false e = rw e (has-none (is_open marks q))

-- the walk

pub record Walked (ways : ℕ → List ℕ) (blocks : List BlockTouches) (dead : List Bool) (at : ℕ) (rest : List LaneTouch) (marks : List Bool) (work : List ℕ) (k : ℕ) : Type 0 where
  pub marked : (q : ℕ) → is_open marks q ≡ (is_open dead q && not (has q work))
  pub sound : (q : ℕ) → has q work ≡ true → Enters ways blocks dead at rest q
  pub first : keeps rest ≡ true → (q : ℕ) → has q (ways at) ≡ true → is_open dead q ≡ true → has q work ≡ true
  pub done : (j r : ℕ) → j < k → slice_get work j ≡ Some r → keeps (touches_at blocks r) ≡ true → (q : ℕ) → has q (ways r) ≡ true → is_open dead q ≡ true → has q work ≡ true

within : (b : Bool) (xs : List ℕ) (q : ℕ) → has q (cond b xs []) ≡ true → (b ≡ true) × (has q xs ≡ true)
within true xs q h = (refl, h)
within false xs q h = absurd (cc)

module _ (ways : ℕ → List ℕ) (blocks : List BlockTouches) (dead : List Bool) (at : ℕ) (rest : List LaneTouch) where
  -- where it goes from the rest, and from a whole block
  abbrev from-rest : List ℕ
  from-rest = cond (keeps rest) (ways at) []

  abbrev from-block : ℕ → List ℕ
  from-block p = cond (keeps (touches_at blocks p)) (ways p) []

  pub walked-none : (marks : List Bool) (work : List ℕ) → Spreads dead [] marks work from-rest → Walked ways blocks dead at rest marks work 0
  walked-none marks work s = record {
    marked = λ q. s.marked q ∙ (ap (λ b. b && not (has q from-rest)) (open-none (is_open dead q)) ∙ marks-more (is_open dead q) false (has q from-rest) ∙ ap (λ b. is_open dead q && not b) (sym (listed q)));
    sound = λ q h. let both = sym (listed q) ∙ h in enters q (split (is_open dead q) (has q from-rest) both);
    first = λ k q h o. listed q ∙ yes (is_open dead q) (has q from-rest) o (subst (λ b. has q (cond b (ways at) []) ≡ true) (sym k) h);
    done = λ j r h. absurd (omega arith);
  }
    where
      listed : (q : ℕ) → has q work ≡ ((is_open dead q && not false) && has q from-rest)
      listed q = ap (has q) s.grown ∙ (s.found q ∙ ap (λ b. b && has q from-rest) (open-none (is_open dead q)))

      split : (d n : Bool) → ((d && not false) && n) ≡ true → (d ≡ true) × (n ≡ true)
      split true true e = (refl, refl)
      split true false e = absurd (cc)
      split false n e = absurd (cc)

      yes : (d n : Bool) → d ≡ true → n ≡ true → ((d && not false) && n) ≡ true
      yes true true e h = refl
      yes false n e h = absurd (cc)
      yes true false e h = absurd (cc)

      enters : (q : ℕ) → (is_open dead q ≡ true) × (has q from-rest ≡ true) → Enters ways blocks dead at rest q
      enters q z = let w = within (keeps rest) (ways at) q z.1 in leaves w.0 w.1 z.0

  pub walked-more : (marks marks' : List Bool) (work work' : List ℕ) (k : ℕ) → k < length work → Walked ways blocks dead at rest marks work k
      → Spreads marks work marks' work' (from-block (get_or work k 0)) → Walked ways blocks dead at rest marks' work' (k + 1)
  walked-more marks marks' work work' k inside w s = record {
    marked = λ q. s.marked q ∙ (ap (λ b. b && not (has q (from-block (get_or work k 0)))) (w.marked q) ∙ (marks-more (is_open dead q) (has q work) (has q (from-block (get_or work k 0))) ∙ ap (λ b. is_open dead q && not b) (sym (listed q))));
    sound = λ q h. elim (or-cases (has q work) _ (sym (listed q) ∙ h)) [
      | inl a ↦ w.sound q a
      | inr b ↦ let n = within (keeps (touches_at blocks (get_or work k 0))) (ways (get_or work k 0)) q (second_of_both _ _ b) in goes_on (w.sound (get_or work k 0) (has-at work k (get_or work k 0) at-k)) n.0 n.1 (first_of_both _ _ (first_of_both _ _ b))
    ];
    first = λ e q h o. listed q ∙ or-left (has q work) _ (w.first e q h o);
    done = λ j r h e m q n o. old-or-new j r h e m q n o;
  }
    where
      at-k : slice_get work k ≡ Some (get_or work k 0)
      at-k = got-at work k inside

      listed : (q : ℕ) → has q work' ≡ (has q work || ((is_open dead q && not (has q work)) && has q (from-block (get_or work k 0))))
      listed q = ap (has q) s.grown ∙ (has-join q work s.more ∙ ap (λ b. has q work || b) (s.found q ∙ ap (λ b. b && has q (from-block (get_or work k 0))) (w.marked q)))

      old-or-new : (j r : ℕ) → j < k + 1 → slice_get work' j ≡ Some r → keeps (touches_at blocks r) ≡ true → (q : ℕ) → has q (ways r) ≡ true → is_open dead q ≡ true → has q work' ≡ true
      old-or-new j r h e m q n o = go (nat_eq j k) refl
        where
          was : slice_get work j ≡ Some r
          was = sym (front-at work s.more j (omega arith)) ∙ (ap (λ xs. slice_get xs j) (sym s.grown) ∙ e)

          go : (b : Bool) → nat_eq j k ≡ b → has q work' ≡ true
          go true g =
              let same : j ≡ k = eqb-true j k g in
              let r-is : Some r ≡ Some (get_or work k 0) = sym was ∙ (ap (slice_get work) same ∙ at-k) in
              let r-same : r ≡ (get_or work k 0) = cc in
              let kept : keeps (touches_at blocks (get_or work k 0)) ≡ true = subst (λ x. keeps (touches_at blocks x) ≡ true) r-same m in
              let there : has q (ways (get_or work k 0)) ≡ true = subst (λ x. has q (ways x) ≡ true) r-same n in
              listed q ∙ found-more (is_open dead q) (has q work) (has q (from-block (get_or work k 0))) o (subst (λ b. has q (cond b (ways (get_or work k 0)) []) ≡ true) (sym kept) there)
          go false g = listed q ∙ or-left (has q work) _ (w.done j r (apart g) was m q n o)
            where
              apart : nat_eq j k ≡ false → j < k
              apart g = grind arith

  pub walked-at : (marks marks' : List Bool) (work work' : List ℕ) (k r : ℕ) → k < length work → r ≡ get_or work k r → Walked ways blocks dead at rest marks work k
      → Spreads marks work marks' work' (from-block r) → Walked ways blocks dead at rest marks' work' (k + 1)
  walked-at marks marks' work work' k r inside is w s = walked-more marks marks' work work' k inside w (subst (λ p. Spreads marks work marks' work' (from-block p)) (is ∙ same-default work k r 0 inside) s)

  pub walked-all : (marks : List Bool) (work : List ℕ) (k : ℕ) → length work ≤ k → Walked ways blocks dead at rest marks work k → (q : ℕ) → (has q work ≡ true) ↔ Enters ways blocks dead at rest q
  walked-all marks work k all w q = (w.sound q, back)
    where
      back : {p : ℕ} → Enters ways blocks dead at rest p → has p work ≡ true
      back (leaves e h o) = w.first e _ h o
      back (goes_on g e h o) = let z = at-has work _ (back g) in w.done z.0 _ (omega (arith, z.1)) z.2 e _ h o
