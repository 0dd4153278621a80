-- Copies sorted by their frequencies, where those that are as frequent keep their order.
use Rattle.std.proofs.Common.{◌≡◌, ◌∙◌, ◌&&◌, ◌∷◌, ◌-◌, ◌<◌, ◌≤◌, not, ℕ, suc, Bool, true, false, cond, List, [], length, filter, get_or, refl, sym, ap, subst, eqb-true, eq-eqb, arith, Fits, w64}
use Rattle.std.specs.Prelude.{flat_map, nat_eq, nat_lt, zip}
use Rattle.std.specs.List.{AllByRecursion}
use Rattle.std.specs.List.Sorted.{IsNonDecreasingBy, IsPermutation, IsStableByKey, ties}
use Rattle.std.specs.Ordering.{is_lt, nat_cmp}
use Rattle.std.specs.declared.cmp.Ordering.TheVariants.{Less, Equal, Greater}
use Rattle.std.proofs.lemmas.Bool.{ltb-true, ltb-false, eqb-false}
use Rattle.std.proofs.lemmas.List.Elements.{All-from_recursion, recursion_from_All}
use Rattle.std.proofs.lemmas.List.Sorted.{All-permutation}
use Rattle.target_base.specs.declared.types.Target.{Target}
use Rattle.meaning.specs.Live.{Among as Member, here as first, there as later}
use Rattle.mir_func.specs.declared.func.Block.{Block}
use Rattle.mir_func.specs.declared.func.Instr.{Instr}
use Rattle.instr_effects.proofs.Members.{filter-of, flat-of, map-of, member-elim, member-none}
use Rattle.join_laws.specs.Joined.{block_copies, by_frequency, copies_ranges, put_by_frequency}

-- frequencies don't rise along the list
abbrev pub Falls : List (ℕ × ℕ) → Type 0
Falls [] = Unit {0}
Falls (c ∷ cs) = ((d : ℕ × ℕ) → Member d cs → d.0 ≤ c.0) × Falls cs

-- those of one frequency
abbrev pub same : ℕ → List (ℕ × ℕ) → List (ℕ × ℕ)
same n cs = filter (λ c. nat_eq c.0 n) cs

abbrev pub AreBelow : ℕ → List (ℕ × ℕ) → Type 0
AreBelow k cs = (c : ℕ × ℕ) → Member c cs → c.0 < k

-- by insertion

put-member : (c : ℕ × ℕ) (ds : List (ℕ × ℕ)) (e : ℕ × ℕ) → Member e (put_by_frequency c ds) → Member e (c ∷ ds)
put-member c [] e m = m
put-member c (d ∷ ds) e m = go (nat_lt c.0 d.0) m (put-member c ds e)
  where
    behind : Member e (c ∷ ds) → Member e (c ∷ d ∷ ds)
    behind k = member-elim e c ds (λ q. subst (λ z. Member e (z ∷ d ∷ ds)) q first) (λ j. later (later j)) k

    go : (u : Bool) → Member e (cond u (d ∷ put_by_frequency c ds) (c ∷ d ∷ ds)) → (Member e (put_by_frequency c ds) → Member e (c ∷ ds)) → Member e (c ∷ d ∷ ds)
    go true k ih = member-elim e d (put_by_frequency c ds) (λ q. later (subst (λ z. Member e (z ∷ ds)) q first)) (λ j. behind (ih j)) k
    go false k ih = k

put-falls : (c : ℕ × ℕ) (ds : List (ℕ × ℕ)) → Falls ds → Falls (put_by_frequency c ds)
put-falls c [] h = ((λ d m. absurd (member-none d m)), tt)
put-falls c (d ∷ ds) h = go (nat_lt c.0 d.0) refl (put-falls c ds h.1)
  where
    go : (u : Bool) → nat_lt c.0 d.0 ≡ u → Falls (put_by_frequency c ds) → Falls (cond u (d ∷ put_by_frequency c ds) (c ∷ d ∷ ds))
    go true e ih = ((λ x m. member-elim x c ds (λ q. let l = ltb-true c.0 d.0 e in let s = ap (λ (p : ℕ × ℕ). p.0) q in omega (arith, l, s)) (λ k. h.0 x k) (put-member c ds x m)), ih)
    go false e ih = ((λ x m. let l = ltb-false c.0 d.0 e in member-elim x d ds (λ q. let s = ap (λ (p : ℕ × ℕ). p.0) q in omega (arith, l, s)) (λ k. let r = h.0 x k in omega (arith, l, r)) m), h)

put-same : (n : ℕ) (c : ℕ × ℕ) (ds : List (ℕ × ℕ)) → same n (put_by_frequency c ds) ≡ same n (c ∷ ds)
put-same n c [] = refl
put-same n c (d ∷ ds) = go (nat_lt c.0 d.0) refl (put-same n c ds)
  where
    step : nat_lt c.0 d.0 ≡ true → (u v : Bool) → nat_eq c.0 n ≡ u → nat_eq d.0 n ≡ v → cond v (d ∷ cond u (c ∷ same n ds) (same n ds)) (cond u (c ∷ same n ds) (same n ds)) ≡ cond u (c ∷ cond v (d ∷ same n ds) (same n ds)) (cond v (d ∷ same n ds) (same n ds))
    step l true true e f = absurd (let p = ltb-true c.0 d.0 l in let q = eqb-true c.0 n e in let r = eqb-true d.0 n f in omega (arith, p, q, r))
    step l true false e f = refl
    step l false v e f = refl

    go : (u : Bool) → nat_lt c.0 d.0 ≡ u → same n (put_by_frequency c ds) ≡ same n (c ∷ ds) → same n (cond u (d ∷ put_by_frequency c ds) (c ∷ d ∷ ds)) ≡ same n (c ∷ d ∷ ds)
    go true e ih = ap (λ zs. cond (nat_eq d.0 n) (d ∷ zs) zs) ih ∙ step e (nat_eq c.0 n) (nat_eq d.0 n) refl refl
    go false e ih = refl

all-member : (cs : List (ℕ × ℕ)) (e : ℕ × ℕ) → Member e (by_frequency cs) → Member e cs
all-member [] e m = m
all-member (c ∷ cs) e m = member-elim e c (by_frequency cs) (λ q. subst (λ z. Member e (z ∷ cs)) q first) (λ k. later (all-member cs e k)) (put-member c (by_frequency cs) e m)

all-falls : (cs : List (ℕ × ℕ)) → Falls (by_frequency cs)
all-falls [] = tt
all-falls (c ∷ cs) = put-falls c (by_frequency cs) (all-falls cs)

all-same : (n : ℕ) (cs : List (ℕ × ℕ)) → same n (by_frequency cs) ≡ same n cs
all-same n [] = refl
all-same n (c ∷ cs) = put-same n c (by_frequency cs) ∙ ap (λ zs. cond (nat_eq c.0 n) (c ∷ zs) zs) (all-same n cs)

-- two lists along which frequencies don't rise, and that have the same of each frequency, are one

own-first : (n : ℕ) (x : ℕ × ℕ) (xs : List (ℕ × ℕ)) → x.0 ≡ n → same n (x ∷ xs) ≡ x ∷ same n xs
own-first n x xs e = ap (λ u. cond u (x ∷ same n xs) (same n xs)) (eq-eqb x.0 n e)

none-there : (x : ℕ × ℕ) (xs : List (ℕ × ℕ)) → same x.0 (x ∷ xs) ≡ [] → ⊥
none-there x xs e = let z : x ∷ same x.0 xs ≡ [] = sym (own-first x.0 x xs refl) ∙ e in cc

head-below : (x y : ℕ × ℕ) (xs ys : List (ℕ × ℕ)) → Falls (y ∷ ys) → same x.0 (x ∷ xs) ≡ same x.0 (y ∷ ys) → x.0 ≤ y.0
head-below x y xs ys s h =
    let m : Member x (same x.0 (y ∷ ys)) = subst (Member x) (sym (own-first x.0 x xs refl) ∙ h) first in
    member-elim x y ys (λ e. let q = ap (λ (p : ℕ × ℕ). p.0) e in omega (arith, q)) (λ k. s.0 x k) (filter-of (λ (c : ℕ × ℕ). nat_eq c.0 x.0) x (y ∷ ys) m).0

tails : (k : ℕ) (x y : ℕ × ℕ) (xs ys : List (ℕ × ℕ)) → x.0 ≡ y.0 → same x.0 xs ≡ same x.0 ys → ((n : ℕ) → n < k → same n (x ∷ xs) ≡ same n (y ∷ ys)) → (n : ℕ) → n < k → same n xs ≡ same n ys
tails k x y xs ys e own h n l = go (nat_eq x.0 n) refl
  where
    go : (u : Bool) → nat_eq x.0 n ≡ u → same n xs ≡ same n ys
    go true g = subst (λ m. same m xs ≡ same m ys) (eqb-true x.0 n g) own
    go false g =
        let p : same n (x ∷ xs) ≡ same n xs = ap (λ u. cond u (x ∷ same n xs) (same n xs)) g in
        let q : same n (y ∷ ys) ≡ same n ys = ap (λ u. cond u (y ∷ same n ys) (same n ys)) (ap (λ m. nat_eq m n) (sym e) ∙ g) in
        sym p ∙ h n l ∙ q

same-lists : (k : ℕ) (xs ys : List (ℕ × ℕ)) → Falls xs → Falls ys → AreBelow k xs → AreBelow k ys → ((n : ℕ) → n < k → same n xs ≡ same n ys) → xs ≡ ys
same-lists k [] [] r s a b h = refl
same-lists k [] (y ∷ ys) r s a b h = absurd (none-there y ys (sym (h y.0 (b y first))))
same-lists k (x ∷ xs) [] r s a b h = absurd (none-there x xs (h x.0 (a x first)))
same-lists k (x ∷ xs) (y ∷ ys) r s a b h =
    let lo = head-below x y xs ys s (h x.0 (a x first)) in
    let hi = head-below y x ys xs r (sym (h y.0 (b y first))) in
    let e : x.0 ≡ y.0 = omega (arith, lo, hi) in
    let both : x ∷ same x.0 xs ≡ y ∷ same x.0 ys = sym (own-first x.0 x xs refl) ∙ h x.0 (a x first) ∙ own-first x.0 y ys (sym e) in
    let heads : x ≡ y = cc in
    let rests : same x.0 xs ≡ same x.0 ys = cc in
    ap (λ z. z ∷ xs) heads ∙ ap (λ zs. y ∷ zs) (same-lists k xs ys r.1 s.1 (λ c m. a c (later m)) (λ c m. b c (later m)) (tails k x y xs ys e rests h))

-- by a stable sort

-- what is left of the greatest frequency
abbrev pub rank : ℕ × ℕ → ℕ
rank c = 18446744073709551615 - c.0

head-ranks : (n : ℕ) (ys : List (ℕ × ℕ)) → ((k : ℕ) (d : ℕ × ℕ) → k < length ys → n ≤ rank (get_or ys k d)) → (d : ℕ × ℕ) → Member d ys → n ≤ rank d
head-ranks n [] h d m = absurd (member-none d m)
head-ranks n (z ∷ zs) h d m = member-elim d z zs (λ e. subst (λ w. n ≤ rank w) (sym e) (h 0 z (omega arith))) (λ k. head-ranks n zs (λ j w l. h (suc j) w (omega (arith, l))) d k) m

sorted-falls : (ys : List (ℕ × ℕ)) → AreBelow 18446744073709551616 ys → IsNonDecreasingBy rank ys → Falls ys
sorted-falls [] a h = tt
sorted-falls (y ∷ ys) a h = (
  (λ d m. let l = head-ranks (rank y) ys (λ k w q. h 0 (suc k) w (omega arith) (omega (arith, q))) d m in let b = a d (later m) in let g = a y first in omega (arith, l, b, g)),
  sorted-falls ys (λ c m. a c (later m)) (λ i j d l q. h (suc i) (suc j) d (omega (arith, l)) (omega (arith, q))),
)

less-is : (a b : ℕ) → is_lt (nat_cmp a b) ≡ nat_lt a b
less-is a b = go (nat_lt a b) (nat_eq a b)
  where
    go : (u v : Bool) → is_lt (cond u Less (cond v Equal Greater)) ≡ u
    go true v = refl
    go false true = refl
    go false false = refl

ties-is : (n : ℕ) (c : ℕ × ℕ) → n < 18446744073709551616 → c.0 < 18446744073709551616 → ties (λ x y. is_lt (nat_cmp (rank x) (rank y))) (n, 0) c ≡ nat_eq c.0 n
ties-is n c l m = (λ i. not (less-is (rank (n, 0)) (rank c) i) && not (less-is (rank c) (rank (n, 0)) i)) ∙ go (nat_lt (rank (n, 0)) (rank c)) (nat_lt (rank c) (rank (n, 0))) (nat_eq c.0 n) refl refl refl
  where
    go : (u v w : Bool) → nat_lt (rank (n, 0)) (rank c) ≡ u → nat_lt (rank c) (rank (n, 0)) ≡ v → nat_eq c.0 n ≡ w → (not u && not v) ≡ w
    go true v true e f g = absurd (let p = ltb-true (rank (n, 0)) (rank c) e in let q = eqb-true c.0 n g in omega (arith, p, q, l, m))
    go true v false e f g = refl
    go false true true e f g = absurd (let p = ltb-true (rank c) (rank (n, 0)) f in let q = eqb-true c.0 n g in omega (arith, p, q, l, m))
    go false true false e f g = refl
    go false false true e f g = refl
    go false false false e f g = absurd (let p = ltb-false (rank (n, 0)) (rank c) e in let r = ltb-false (rank c) (rank (n, 0)) f in eqb-false c.0 n g (omega (arith, p, r, l, m)))

filter-as : {X : Type 0} (p q : X → Bool) (xs : List X) → ((x : X) → Member x xs → p x ≡ q x) → filter p xs ≡ filter q xs
filter-as p q [] h = refl
filter-as p q (x ∷ xs) h = ap (λ u. cond u (x ∷ filter p xs) (filter p xs)) (h x first) ∙ ap (λ zs. cond (q x) (x ∷ zs) zs) (filter-as p q xs (λ y m. h y (later m)))

abbrev tied : ℕ → ℕ × ℕ → Bool
tied n c = ties (λ x y. is_lt (nat_cmp (rank x) (rank y))) (n, 0) c

pub sorted-is : (xs ys : List (ℕ × ℕ)) → AreBelow 18446744073709551616 xs → AreBelow 18446744073709551616 ys → IsNonDecreasingBy rank ys → IsStableByKey rank nat_cmp xs ys → ys ≡ by_frequency xs
sorted-is xs ys a b up stable =
    same-lists 18446744073709551616 ys (by_frequency xs) (sorted-falls ys b up) (all-falls xs) b (λ c m. a c (all-member xs c m))
    (λ n l. sym (filter-as (tied n) (λ c. nat_eq c.0 n) ys (λ c m. ties-is n c l (b c m))) ∙ stable (n, 0) ∙ filter-as (tied n) (λ c. nat_eq c.0 n) xs (λ c m. ties-is n c l (a c m)) ∙ sym (all-same n xs))

-- frequencies that code reads are below 2^64

all-member-of : {X : Type 0} (P : X → Type 0) (xs : List X) → AllByRecursion P xs → (x : X) → Member x xs → P x
all-member-of P [] a x m = absurd (member-none x m)
all-member-of P (y ∷ ys) a x m = member-elim x y ys (λ e. subst P (sym e) a.0) (λ k. all-member-of P ys a.1 x k) m

all-of-members : {X : Type 0} (P : X → Type 0) (xs : List X) → ((x : X) → Member x xs → P x) → AllByRecursion P xs
all-of-members P [] h = tt
all-of-members P (x ∷ xs) h = (h x first, all-of-members P xs (λ y m. h y (later m)))

pub below-moved : (k : ℕ) (xs ys : List (ℕ × ℕ)) → IsPermutation xs ys → AreBelow k xs → AreBelow k ys
below-moved k xs ys p a = all-member-of (λ c. c.0 < k) ys (recursion_from_All (λ c. c.0 < k) ys (All-permutation (λ c. c.0 < k) xs ys p (All-from_recursion (λ c. c.0 < k) xs (all-of-members (λ c. c.0 < k) xs a))))

zip-member : {B : Type 0} (fs : List ℕ) (bs : List B) (p : ℕ × B) → Member p (zip fs bs) → Member p.0 fs
zip-member [] bs p m = absurd (member-none p m)
zip-member (f ∷ fs) [] p m = absurd (member-none p m)
zip-member {B = B} (f ∷ fs) (b ∷ bs) p m = member-elim p (f, b) (zip fs bs) (λ e. subst (λ (q : ℕ × B). Member q.0 (f ∷ fs)) (sym e) first) (λ k. later (zip-member fs bs p k)) m

fits-below : (fs : List ℕ) → ((i : ℕ) → Fits w64 (get_or fs i 0)) → (n : ℕ) → Member n fs → n < 18446744073709551616
fits-below [] h n m = absurd (member-none n m)
fits-below (f ∷ fs) h n m = member-elim n f fs (λ e. subst (λ k. k < 18446744073709551616) (sym e) (let l = h 0 in omega (arith, l))) (λ k. fits-below fs (λ i. h (suc i)) n k) m

pub copies-below : (t : Target) (fs : List ℕ) (bs : List Block) → ((i : ℕ) → Fits w64 (get_or fs i 0)) → AreBelow 18446744073709551616 (flat_map (block_copies t) (zip fs bs))
copies-below t fs bs h c m =
    let z = flat-of (block_copies t) c (zip fs bs) m in
    let y = map-of (λ (i : Instr). (z.0.0, i.id)) c (filter (copies_ranges t) z.0.1.instrs) z.2 in
    subst (λ (d : ℕ × ℕ). d.0 < 18446744073709551616) (sym y.2) (fits-below fs h z.0.0 (zip-member fs bs z.0 z.1))
