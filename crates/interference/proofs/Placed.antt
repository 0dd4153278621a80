-- Parts of which one changes, and what is held then.
use Rattle.std.proofs.Common.{◌≡◌, ◌<◌, ◌≤◌, ℕ, zero, suc, Bool, true, false, cond, length, take, drop, set, List, [], ◌∷◌, ◌++◌, Some, refl, sym, ap, ◌∙◌, arith, append-nil, append_assoc}
use Rattle.std.specs.Prelude.{◌||◌, nat_eq, slice_get}
use Rattle.std.specs.List.{list_any, insert, remove}
use Rattle.std.proofs.lemmas.Bool.{ne_eqb, eq-eqb, eqb-true}
use Rattle.std.proofs.lemmas.List.{take-append-drop}
use Rattle.live_lanes.proofs.Held.{or-none}
use Rattle.interference.specs.declared.held.ListPosition.{ListPosition}
use Rattle.interference.specs.declared.held.RangeExtent.{RangeExtent}
use Rattle.interference.specs.Clashes.{is_none}
use Rattle.interference.specs.Parts.{part_in, part_before, before}
use Rattle.interference.specs.Changes.{IsCut, IsInserted}
use Rattle.interference.proofs.Parts.{flat}

pub flat-set : (ps : List (List RangeExtent)) (k : ℕ) (q : List RangeExtent) → k < length ps → flat (set ps k q) ≡ flat (take k ps) ++ (q ++ flat (drop (suc k) ps))
flat-set [] k q h = absurd (omega arith)
flat-set (p ∷ ps) zero q h = refl
flat-set (p ∷ ps) (suc k) q h = ap (λ xs. p ++ xs) (flat-set ps k q (omega arith)) ∙ sym (append_assoc p (flat (take k ps)) (q ++ flat (drop (suc k) ps)))

pub flat-at : (ps : List (List RangeExtent)) (k : ℕ) → k < length ps → flat ps ≡ flat (take k ps) ++ (part_in ps k ++ flat (drop (suc k) ps))
flat-at [] k h = absurd (omega arith)
flat-at (p ∷ ps) zero h = refl
flat-at (p ∷ ps) (suc k) h = ap (λ xs. p ++ xs) (flat-at ps k (omega arith)) ∙ sym (append_assoc p (flat (take k ps)) (part_in ps k ++ flat (drop (suc k) ps)))

flat-append : (ps qs : List (List RangeExtent)) → flat (ps ++ qs) ≡ flat ps ++ flat qs
flat-append [] qs = refl
flat-append (p ∷ ps) qs = ap (λ xs. p ++ xs) (flat-append ps qs) ∙ sym (append_assoc p (flat ps) (flat qs))

none-nil : (p : List RangeExtent) → is_none p ≡ true → p ≡ []
none-nil [] e = refl
none-nil (x ∷ xs) e = absurd (cc)

-- an empty part holds nothing
pub flat-remove : (ps : List (List RangeExtent)) (k : ℕ) → k < length ps → is_none (part_in ps k) ≡ true → flat (remove ps k) ≡ flat ps
flat-remove ps k h e =
    flat-append (take k ps) (drop (suc k) ps)
    ∙ ap (λ q. flat (take k ps) ++ (q ++ flat (drop (suc k) ps))) (sym (none-nil (part_in ps k) e))
    ∙ sym (flat-at ps k h)

pub set-same : (ps : List (List RangeExtent)) (k : ℕ) → set ps k (part_in ps k) ≡ ps
set-same [] k = refl
set-same (p ∷ ps) zero = refl
set-same (p ∷ ps) (suc k) = ap (λ xs. p ∷ xs) (set-same ps k)

-- those before a place, by the parts before it

flat-more : (ps : List (List RangeExtent)) (j : ℕ) → flat (take (suc j) ps) ≡ flat (take j ps) ++ part_in ps j
flat-more [] zero = refl
flat-more [] (suc j) = refl
flat-more (p ∷ ps) zero = append-nil p
flat-more (p ∷ ps) (suc j) = ap (λ xs. p ++ xs) (flat-more ps j) ∙ sym (append_assoc p (flat (take j ps)) (part_in ps j))

before-low : (ps : List (List RangeExtent)) (gap : ListPosition) (j : ℕ) → j ≤ gap.part → before ps gap j ≡ flat (take j ps)
before-low ps gap zero le = refl
before-low ps gap (suc j) le =
    ap (λ xs. xs ++ part_before ps gap j) (before-low ps gap j (omega arith))
    ∙ ap (λ b. flat (take j ps) ++ cond b (take gap.count (part_in ps j)) (part_in ps j)) (ne_eqb j gap.part (λ e. omega arith))
    ∙ sym (flat-more ps j)

pub before-is : (ps : List (List RangeExtent)) (gap : ListPosition) → before ps gap (suc gap.part) ≡ flat (take gap.part ps) ++ take gap.count (part_in ps gap.part)
before-is ps gap =
    let le : gap.part ≤ gap.part = omega arith in
    ap (λ xs. xs ++ part_before ps gap gap.part) (before-low ps gap gap.part le)
    ∙ ap (λ b. flat (take gap.part ps) ++ cond b (take gap.count (part_in ps gap.part)) (part_in ps gap.part)) (eq-eqb gap.part gap.part refl)

-- a stretch is put at a place
pub put-at : (ps : List (List RangeExtent)) (gap : ListPosition) (h : RangeExtent) → gap.part < length ps → IsInserted (before ps gap (suc gap.part)) h (flat ps) (flat (set ps gap.part (insert (part_in ps gap.part) gap.count h)))
put-at ps gap h lt =
    let p = part_in ps gap.part in
    let low : List RangeExtent = flat (take gap.part ps) in
    let high : List RangeExtent = flat (drop (suc gap.part) ps) in
    record {
      rest = drop gap.count p ++ high;
      was =
          flat-at ps gap.part lt ∙ ap (λ xs. low ++ (xs ++ high)) (sym (take-append-drop gap.count p))
          ∙ turn low (take gap.count p) (drop gap.count p) high ∙ ap (λ xs. xs ++ (drop gap.count p ++ high)) (sym (before-is ps gap));
      is =
          flat-set ps gap.part (insert p gap.count h) lt
          ∙ turn low (take gap.count p) (h ∷ drop gap.count p) high ∙ ap (λ xs. xs ++ (h ∷ (drop gap.count p ++ high))) (sym (before-is ps gap));
    }
  where
    turn : (a b c d : List RangeExtent) → a ++ ((b ++ c) ++ d) ≡ (a ++ b) ++ (c ++ d)
    turn a b c d = ap (λ xs. a ++ xs) (append_assoc b c d) ∙ sym (append_assoc a b (c ++ d))

-- the stretch at a place of a list stands behind those before it
around : (p : List RangeExtent) (i : ℕ) (h : RangeExtent) → slice_get p i ≡ Some h → p ≡ take i p ++ h ∷ drop (suc i) p
around [] i h e = absurd (cc)
around (x ∷ xs) zero h e = let same : x ≡ h = cc in ap (λ y. y ∷ xs) same
around (x ∷ xs) (suc i) h e = ap (λ ys. x ∷ ys) (around xs i h e)

pub some-part : (ps : List (List RangeExtent)) (k i : ℕ) (h : RangeExtent) → slice_get (part_in ps k) i ≡ Some h → k < length ps
some-part [] k i h e = absurd (cc)
some-part (p ∷ ps) zero i h e = omega arith
some-part (p ∷ ps) (suc k) i h e = let z = some-part ps k i h e in omega arith

pub within-part : (p : List RangeExtent) (i : ℕ) (h : RangeExtent) → slice_get p i ≡ Some h → i < length p
within-part [] i h e = absurd (cc)
within-part (x ∷ xs) zero h e = omega arith
within-part (x ∷ xs) (suc i) h e = let z = within-part xs i h e in omega arith

-- a stretch is taken out of a part
pub cut-at : (ps : List (List RangeExtent)) (k i : ℕ) (h : RangeExtent) → slice_get (part_in ps k) i ≡ Some h → IsCut h (flat ps) (flat (set ps k (remove (part_in ps k) i)))
cut-at ps k i h e =
    let p = part_in ps k in
    let lt = some-part ps k i h e in
    let low : List RangeExtent = flat (take k ps) in
    let high : List RangeExtent = flat (drop (suc k) ps) in
    record {
      front = low ++ take i p;
      rest = drop (suc i) p ++ high;
      was = flat-at ps k lt ∙ ap (λ xs. low ++ (xs ++ high)) (around p i h e) ∙ turn low (take i p) (h ∷ drop (suc i) p) high;
      is = flat-set ps k (remove p i) lt ∙ turn low (take i p) (drop (suc i) p) high;
    }
  where
    turn : (a b c d : List RangeExtent) → a ++ ((b ++ c) ++ d) ≡ (a ++ b) ++ (c ++ d)
    turn a b c d = ap (λ xs. a ++ xs) (append_assoc b c d) ∙ sym (append_assoc a b (c ++ d))

-- none of the parts is empty

any-left : (a b : Bool) → (a || b) ≡ false → a ≡ false
any-left true b e = e
any-left false b e = refl

any-right : (a b : Bool) → (a || b) ≡ false → b ≡ false
any-right true b e = absurd (cc)
any-right false b e = e

pub filled-at : (ps : List (List RangeExtent)) (k : ℕ) → k < length ps → list_any is_none ps ≡ false → is_none (part_in ps k) ≡ false
filled-at [] k h e = absurd (omega arith)
filled-at (p ∷ ps) zero h e = any-left (is_none p) (list_any is_none ps) e
filled-at (p ∷ ps) (suc k) h e = filled-at ps k (omega arith) (any-right (is_none p) (list_any is_none ps) e)

pub filled-set : (ps : List (List RangeExtent)) (k : ℕ) (q : List RangeExtent) → list_any is_none ps ≡ false → is_none q ≡ false → list_any is_none (set ps k q) ≡ false
filled-set [] k q e f = refl
filled-set (p ∷ ps) zero q e f = or-none (is_none q) (list_any is_none ps) f (any-right (is_none p) (list_any is_none ps) e)
filled-set (p ∷ ps) (suc k) q e f = or-none (is_none p) (list_any is_none (set ps k q)) (any-left (is_none p) (list_any is_none ps) e) (filled-set ps k q (any-right (is_none p) (list_any is_none ps) e) f)

-- where one part is changed and taken away, the others are as they were
pub filled-remove : (ps : List (List RangeExtent)) (k : ℕ) (q : List RangeExtent) → list_any is_none ps ≡ false → list_any is_none (remove (set ps k q) k) ≡ false
filled-remove [] k q e = go k
  where
    go : (j : ℕ) → list_any is_none (remove (set [] j q) j) ≡ false
    go zero = refl
    go (suc j) = refl
filled-remove (p ∷ ps) zero q e = any-right (is_none p) (list_any is_none ps) e
filled-remove (p ∷ ps) (suc k) q e = or-none (is_none p) (list_any is_none (remove (set ps k q) k)) (any-left (is_none p) (list_any is_none ps) e) (filled-remove ps k q (any-right (is_none p) (list_any is_none ps) e))

-- a part that isn't empty beside others that aren't
pub filled-beside : (ps : List (List RangeExtent)) (k : ℕ) → k < length ps → is_none (part_in ps k) ≡ false → list_any is_none (remove ps k) ≡ false → list_any is_none ps ≡ false
filled-beside [] k h e f = absurd (omega arith)
filled-beside (p ∷ ps) zero h e f = or-none (is_none p) (list_any is_none ps) e f
filled-beside (p ∷ ps) (suc k) h e f = or-none (is_none p) (list_any is_none ps) (any-left (is_none p) (list_any is_none (remove ps k)) f) (filled-beside ps k (omega arith) e (any-right (is_none p) (list_any is_none (remove ps k)) f))

-- whether a part is empty tells its length
pub filled-part : (p : List RangeExtent) (n : ℕ) (t : Bool) → n ≡ length p → t ≡ nat_eq n 0 → t ≡ false → is_none p ≡ false
filled-part [] n t l e f = absurd (let z : nat_eq n 0 ≡ true = eq-eqb n 0 l in cc)
filled-part (x ∷ p) n t l e f = refl

pub empty-part : (p : List RangeExtent) (n : ℕ) (t : Bool) → n ≡ length p → t ≡ nat_eq n 0 → t ≡ true → is_none p ≡ true
empty-part [] n t l e f = refl
empty-part (x ∷ p) n t l e f = absurd (let z : n ≡ 0 = eqb-true n 0 (sym e ∙ f) in omega arith)

-- one part is made two

pub flat-halved : (ps : List (List RangeExtent)) (k n : ℕ) → k < length ps → flat (set (insert ps (suc k) (drop n (part_in ps k))) k (take n (part_in ps k))) ≡ flat ps
flat-halved [] k n h = absurd (omega arith)
flat-halved (p ∷ ps) zero n h = sym (append_assoc (take n p) (drop n p) (flat ps)) ∙ ap (λ xs. xs ++ flat ps) (take-append-drop n p)
flat-halved (p ∷ ps) (suc k) n h = ap (λ xs. p ++ xs) (flat-halved ps k n (omega arith))

take-some : (p : List RangeExtent) (n : ℕ) → 0 < n → 0 < length p → is_none (take n p) ≡ false
take-some p zero h l = absurd (omega arith)
take-some [] (suc n) h l = absurd (omega arith)
take-some (x ∷ xs) (suc n) h l = refl

drop-some : (p : List RangeExtent) (n : ℕ) → n < length p → is_none (drop n p) ≡ false
drop-some [] n h = absurd (omega arith)
drop-some (x ∷ xs) zero h = refl
drop-some (x ∷ xs) (suc n) h = drop-some xs n (omega arith)

halved-full : (ps : List (List RangeExtent)) (k n : ℕ) → k < length ps → 0 < n → n < length (part_in ps k) → list_any is_none ps ≡ false → list_any is_none (set (insert ps (suc k) (drop n (part_in ps k))) k (take n (part_in ps k))) ≡ false
halved-full [] k n h lo hi e = absurd (omega arith)
halved-full (p ∷ ps) zero n h lo hi e = or-none (is_none (take n p)) (is_none (drop n p) || list_any is_none ps) (take-some p n lo (omega arith)) (or-none (is_none (drop n p)) (list_any is_none ps) (drop-some p n hi) (any-right (is_none p) (list_any is_none ps) e))
halved-full (p ∷ ps) (suc k) n h lo hi e = or-none (is_none p) (list_any is_none (set (insert ps (suc k) (drop n (part_in ps k))) k (take n (part_in ps k)))) (any-left (is_none p) (list_any is_none ps) e) (halved-full ps k n (omega arith) lo hi (any-right (is_none p) (list_any is_none ps) e))

some-is : (p : List RangeExtent) (n : ℕ) → n < length p → is_none p ≡ false
some-is [] n h = absurd (omega arith)
some-is (x ∷ xs) n h = refl

pub filled-halved : (ps : List (List RangeExtent)) (k n : ℕ) → k < length ps → 0 < n → n < length (part_in ps k) → (1 < length ps → list_any is_none ps ≡ false) → list_any is_none (set (insert ps (suc k) (drop n (part_in ps k))) k (take n (part_in ps k))) ≡ false
filled-halved [] k n h lo hi f = absurd (omega arith)
filled-halved (p ∷ []) zero n h lo hi f = halved-full (p ∷ []) 0 n h lo hi (or-none (is_none p) false (some-is p n hi) refl)
filled-halved (p ∷ []) (suc k) n h lo hi f = absurd (omega arith)
filled-halved (p ∷ q ∷ qs) k n h lo hi f = halved-full (p ∷ q ∷ qs) k n h lo hi (f (omega arith))
