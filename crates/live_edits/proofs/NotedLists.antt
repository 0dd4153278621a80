-- Elements of lists by their places, and lists of notes to which one more is added.
use Rattle.std.proofs.Common.{◌≡◌, ◌<◌, ◌≤◌, ◌+◌, ◌||◌, ℕ, zero, suc, Bool, true, false, cond, length, List, [], ◌∷◌, ◌++◌, None, Some, ◌⊎◌, inl, inr, ⊎_elim, get_or, set, take, refl, sym, ap, ◌∙◌, subst, arith, eqb-true, eq-eqb}
use Rattle.std.specs.Prelude.{nat_eq, slice_get}
use Rattle.std.specs.List.{list_any}
use Rattle.std.proofs.lemmas.List.{take_more}
use Rattle.mir_meaning.specs.Paths.{Among, here, there, has}
use Rattle.live_lanes.specs.Ordered.{times}
use Rattle.live_lanes.proofs.Basics.{none-among}
use Rattle.live_lanes.proofs.Numbered.{among-cases, among-left, among-right, among-split}
use Rattle.live_lanes.proofs.Ordered.{times-both}
use Rattle.live_edits.specs.declared.cells.Note.{Note}
use Rattle.live_edits.specs.Remade.{noted_ids}
use Rattle.live_edits.specs.NotedTable.{with_note}

pub some-same : {X : Type 0} {x y : X} → Some x ≡ Some y → x ≡ y
some-same e = cc

-- members by their places

pub among-get : {X : Type 0} (x : X) (xs : List X) → Among x xs → (k : ℕ) × (slice_get xs k ≡ Some x)
among-get x [] a = absurd (none-among x a)
among-get x (y ∷ xs) here = (0, refl)
among-get x (y ∷ xs) (there a) = let z = among-get x xs a in (suc z.0, z.1)

pub get-among : {X : Type 0} (x : X) (xs : List X) (k : ℕ) → slice_get xs k ≡ Some x → Among x xs
get-among x [] k e = absurd (cc)
get-among {X} x (y ∷ xs) zero e = subst (λ (z : X). Among x (z ∷ xs)) (sym (some-same e)) here
get-among x (y ∷ xs) (suc k) e = there (get-among x xs k e)

pub got-here : {X : Type 0} (xs : List X) (k : ℕ) (x y : X) → slice_get xs k ≡ Some x → y ≡ get_or xs k y → slice_get xs k ≡ Some y
got-here [] k x y e h = absurd (cc)
got-here (z ∷ xs) zero x y e h = ap (λ w. Some w) (sym h)
got-here (z ∷ xs) (suc k) x y e h = got-here xs k x y e h

pub at-get : {X : Type 0} (xs : List X) (k : ℕ) (x : X) → k < length xs → x ≡ get_or xs k x → slice_get xs k ≡ Some x
at-get [] k x h e = absurd (omega arith)
at-get (z ∷ xs) zero x h e = ap (λ w. Some w) (sym e)
at-get (z ∷ xs) (suc k) x h e = at-get xs k x (omega arith) e

pub no-get : {X : Type 0} (xs : List X) (k : ℕ) → length xs ≤ k → slice_get xs k ≡ None
no-get [] k h = refl
no-get (z ∷ xs) zero h = absurd (omega arith)
no-get (z ∷ xs) (suc k) h = no-get xs k (omega arith)

-- one more behind

pub push-kept : {X : Type 0} (xs : List X) (y : X) (k : ℕ) (x : X) → slice_get xs k ≡ Some x → slice_get (xs ++ y ∷ []) k ≡ Some x
push-kept [] y k x e = absurd (cc)
push-kept (z ∷ xs) y zero x e = e
push-kept (z ∷ xs) y (suc k) x e = push-kept xs y k x e

pub push-last : {X : Type 0} (xs : List X) (y : X) → slice_get (xs ++ y ∷ []) (length xs) ≡ Some y
push-last [] y = refl
push-last (z ∷ xs) y = push-last xs y

pub push-cases : {X : Type 0} (xs : List X) (y : X) (k : ℕ) (x : X) → slice_get (xs ++ y ∷ []) k ≡ Some x → (slice_get xs k ≡ Some x) ⊎ ((k ≡ length xs) × (y ≡ x))
push-cases [] y zero x e = inr (refl, some-same e)
push-cases [] y (suc k) x e = absurd (cc)
push-cases (z ∷ xs) y zero x e = inl e
push-cases (z ∷ xs) y (suc k) x e = ⊎_elim (λ h. inl h) (λ h. inr (ap (λ n. suc n) h.0, h.1)) (push-cases xs y k x e)

-- one more element

module _ {X : Type 0} (xs : List X) (k : ℕ) (x : X) (h : k < length xs) (own : x ≡ get_or xs k x) where
  next-taken : take (k + 1) xs ≡ take k xs ++ x ∷ []
  next-taken = take_more xs k x h ∙ ap (λ y. take k xs ++ y ∷ []) (sym own)

  pub taken-more : (y : X) → Among y (take k xs) → Among y (take (k + 1) xs)
  taken-more y a = subst (λ ys. Among y ys) (sym next-taken) (among-left y (take k xs) (x ∷ []) a)

  pub taken-own : Among x (take (k + 1) xs)
  taken-own = subst (λ ys. Among x ys) (sym next-taken) (among-right x (take k xs) (x ∷ []) here)

  pub taken-cases : (y : X) → Among y (take (k + 1) xs) → Among y (take k xs) ⊎ (y ≡ x)
  taken-cases y a = ⊎_elim (λ b. inl b) (λ b. inr (only (among-cases y x [] b))) (among-split y (take k xs) (x ∷ []) (subst (λ ys. Among y ys) next-taken a))
    where
      only : (y ≡ x) ⊎ Among y [] → y ≡ x
      only (inl e) = e
      only (inr b) = absurd (none-among y b)

-- one that is changed

pub set-here : {X : Type 0} (xs : List X) (k : ℕ) (x y : X) → slice_get xs k ≡ Some x → slice_get (set xs k y) k ≡ Some y
set-here [] k x y e = absurd (cc)
set-here (z ∷ xs) zero x y e = refl
set-here (z ∷ xs) (suc k) x y e = set-here xs k x y e

pub set-other : {X : Type 0} (xs : List X) (k j : ℕ) (y : X) → (j ≡ k → ⊥) → slice_get (set xs k y) j ≡ slice_get xs j
set-other [] k j y n = refl
set-other (z ∷ xs) zero zero y n = absurd (n refl)
set-other (z ∷ xs) zero (suc j) y n = refl
set-other (z ∷ xs) (suc k) zero y n = refl
set-other (z ∷ xs) (suc k) (suc j) y n = set-other xs k j y (λ e. n (ap (λ m. suc m) e))

pub set-cases : {X : Type 0} (xs : List X) (k j : ℕ) (y x : X) → slice_get (set xs k y) j ≡ Some x → ((j ≡ k) × (y ≡ x)) ⊎ (slice_get xs j ≡ Some x)
set-cases [] k j y x e = absurd (cc)
set-cases (z ∷ xs) zero zero y x e = inl (refl, some-same e)
set-cases (z ∷ xs) zero (suc j) y x e = inr e
set-cases (z ∷ xs) (suc k) zero y x e = inr e
set-cases (z ∷ xs) (suc k) (suc j) y x e = ⊎_elim (λ h. inl (ap (λ m. suc m) h.0, h.1)) (λ h. inr h) (set-cases xs k j y x e)

pub same-or-not : (j k : ℕ) → (j ≡ k) ⊎ (j ≡ k → ⊥)
same-or-not j k = go (nat_eq j k) refl
  where
    go : (b : Bool) → nat_eq j k ≡ b → (j ≡ k) ⊎ (j ≡ k → ⊥)
    go true e = inl (eqb-true j k e)
    go false e = inr (λ h. let own : nat_eq j k ≡ true = eq-eqb j k h in let z : true ≡ false = sym own ∙ e in cc)

-- notes of an instruction

pub any-has : (id : ℕ) (ns : List Note) → list_any (λ (n : Note). nat_eq n.id id) ns ≡ has id (noted_ids ns)
any-has id [] = refl
any-has id (n ∷ ns) = go (nat_eq n.id id) (any-has id ns)
  where
    go : (b : Bool) → list_any (λ (m : Note). nat_eq m.id id) ns ≡ has id (noted_ids ns) → b || list_any (λ (m : Note). nat_eq m.id id) ns ≡ cond b true (has id (noted_ids ns))
    go true e = refl
    go false e = e

pub has-note : (id : ℕ) (ns : List Note) → has id (noted_ids ns) ≡ true → (n : Note) × Among n ns × (n.id ≡ id)
has-note id [] h = absurd (let z : false ≡ true = h in cc)
has-note id (m ∷ ns) h = go (nat_eq m.id id) refl h (has-note id ns)
  where
    go : (b : Bool) → nat_eq m.id id ≡ b → cond b true (has id (noted_ids ns)) ≡ true → (has id (noted_ids ns) ≡ true → (n : Note) × Among n ns × (n.id ≡ id)) → (n : Note) × Among n (m ∷ ns) × (n.id ≡ id)
    go true e g ih = (m, here, eqb-true m.id id e)
    go false e g ih = let z = ih g in (z.0, there z.1, z.2)

pub note-has : (n : Note) (id : ℕ) (ns : List Note) → Among n ns → n.id ≡ id → has id (noted_ids ns) ≡ true
note-has n id [] a e = absurd (none-among n a)
note-has n id (m ∷ ns) a e = go (nat_eq m.id id) refl (among-cases n m ns a) (λ b. note-has n id ns b e)
  where
    go : (b : Bool) → nat_eq m.id id ≡ b → (n ≡ m) ⊎ Among n ns → (Among n ns → has id (noted_ids ns) ≡ true) → cond b true (has id (noted_ids ns)) ≡ true
    go true f o ih = refl
    go false f (inl g) ih = absurd (let own : nat_eq m.id id ≡ true = eq-eqb m.id id (ap (λ (x : Note). x.id) (sym g) ∙ e) in let z : true ≡ false = sym own ∙ f in cc)
    go false f (inr b) ih = ih b

has-some : (id : ℕ) (xs : List ℕ) → has id xs ≡ true → 1 ≤ times id xs
has-some id [] h = absurd (let z : false ≡ true = h in cc)
has-some id (x ∷ xs) h = go (nat_eq x id) h (has-some id xs)
  where
    go : (b : Bool) → cond b true (has id xs) ≡ true → (has id xs ≡ true → 1 ≤ times id xs) → 1 ≤ cond b (suc (times id xs)) (times id xs)
    go true g ih = omega arith
    go false g ih = ih g

-- where an id stands once at most, there is one note of it
pub one-of-id : (id : ℕ) (ns : List Note) → times id (noted_ids ns) ≤ 1 → (n m : Note) → Among n ns → Among m ns → n.id ≡ id → m.id ≡ id → n ≡ m
one-of-id id [] single n m a b e f = absurd (none-among n a)
one-of-id id (x ∷ ns) single n m a b e f = go (among-cases n x ns a) (among-cases m x ns b) (λ h p q. one-of-id id ns h n m p q e f)
  where
    again : (k : Note) → Among k ns → k.id ≡ id → x.id ≡ id → ⊥
    again k c g h =
        let some : 1 ≤ times id (noted_ids ns) = has-some id (noted_ids ns) (note-has k id ns c g) in
        let more : suc (times id (noted_ids ns)) ≤ 1 = subst (λ u. cond u (suc (times id (noted_ids ns))) (times id (noted_ids ns)) ≤ 1) (eq-eqb x.id id h) single in
        omega arith

    fewer : (u : Bool) → cond u (suc (times id (noted_ids ns))) (times id (noted_ids ns)) ≤ 1 → times id (noted_ids ns) ≤ 1
    fewer true h = omega arith
    fewer false h = h

    go : (n ≡ x) ⊎ Among n ns → (m ≡ x) ⊎ Among m ns → (times id (noted_ids ns) ≤ 1 → Among n ns → Among m ns → n ≡ m) → n ≡ m
    go (inl p) (inl q) ih = p ∙ sym q
    go (inl p) (inr q) ih = absurd (again m q f (ap (λ (y : Note). y.id) (sym p) ∙ e))
    go (inr p) (inl q) ih = absurd (again n p e (ap (λ (y : Note). y.id) (sym q) ∙ f))
    go (inr p) (inr q) ih = ih (fewer (nat_eq x.id id) single) p q

-- with one more note

note-cases : (m : Note) (ns : List Note) → ((has m.id (noted_ids ns) ≡ true) × (with_note m ns ≡ ns)) ⊎ ((has m.id (noted_ids ns) ≡ false) × (with_note m ns ≡ ns ++ m ∷ []))
note-cases m ns = go (has m.id (noted_ids ns)) refl
  where
    go : (b : Bool) → has m.id (noted_ids ns) ≡ b → ((has m.id (noted_ids ns) ≡ true) × (with_note m ns ≡ ns)) ⊎ ((has m.id (noted_ids ns) ≡ false) × (with_note m ns ≡ ns ++ m ∷ []))
    go true e = inl (e, ap (λ b. cond b ns (ns ++ m ∷ [])) e)
    go false e = inr (e, ap (λ b. cond b ns (ns ++ m ∷ [])) e)

pub note-kept : (m n : Note) (ns : List Note) → Among n ns → Among n (with_note m ns)
note-kept m n ns a =
    ⊎_elim (λ h. subst (λ (xs : List Note). Among n xs) (sym h.1) a) (λ h. subst (λ (xs : List Note). Among n xs) (sym h.1) (among-left n ns (m ∷ []) a)) (note-cases m ns)

pub note-back : (m n : Note) (ns : List Note) → Among n (with_note m ns) → Among n ns ⊎ (n ≡ m)
note-back m n ns a =
    ⊎_elim (λ h. inl (subst (λ (xs : List Note). Among n xs) h.1 a))
    (λ h. ⊎_elim (λ b. inl b) (λ b. inr (only (among-cases n m [] b))) (among-split n ns (m ∷ []) (subst (λ (xs : List Note). Among n xs) h.1 a)))
    (note-cases m ns)
  where
    only : (n ≡ m) ⊎ Among n [] → n ≡ m
    only (inl e) = e
    only (inr b) = absurd (none-among n b)

pub note-there : (m : Note) (ns : List Note) → (n : Note) × Among n (with_note m ns) × (n.id ≡ m.id)
note-there m ns =
    ⊎_elim (λ h. let z = has-note m.id ns h.0 in (z.0, note-kept m z.0 ns z.1, z.2))
    (λ h. (m, subst (λ (xs : List Note). Among m xs) (sym h.1) (among-right m ns (m ∷ []) here), refl))
    (note-cases m ns)

absent-times : (id : ℕ) (xs : List ℕ) → has id xs ≡ false → times id xs ≡ 0
absent-times id [] h = refl
absent-times id (x ∷ xs) h = go (nat_eq x id) h (absent-times id xs)
  where
    go : (b : Bool) → cond b true (has id xs) ≡ false → (has id xs ≡ false → times id xs ≡ 0) → cond b (suc (times id xs)) (times id xs) ≡ 0
    go true g ih = absurd (let z : true ≡ false = g in cc)
    go false g ih = ih g

ids-pushed : (m : Note) (ns : List Note) → noted_ids (ns ++ m ∷ []) ≡ noted_ids ns ++ m.id ∷ []
ids-pushed m [] = refl
ids-pushed m (n ∷ ns) = ap (λ xs. n.id ∷ xs) (ids-pushed m ns)

pub note-single : (m : Note) (ns : List Note) → ((id : ℕ) → times id (noted_ids ns) ≤ 1) → (id : ℕ) → times id (noted_ids (with_note m ns)) ≤ 1
note-single m ns single id =
    ⊎_elim (λ h. subst (λ (xs : List Note). times id (noted_ids xs) ≤ 1) (sym h.1) (single id))
    (λ h. subst (λ (xs : List Note). times id (noted_ids xs) ≤ 1) (sym h.1) (subst (λ xs. times id xs ≤ 1) (sym (ids-pushed m ns)) (more h.0)))
    (note-cases m ns)
  where
    by : (b : Bool) → nat_eq m.id id ≡ b → has m.id (noted_ids ns) ≡ false → times id (noted_ids ns) + cond b 1 0 ≤ 1
    by true e h = let none : times id (noted_ids ns) ≡ 0 = ap (λ x. times x (noted_ids ns)) (sym (eqb-true m.id id e)) ∙ absent-times m.id (noted_ids ns) h in omega arith
    by false e h = let s = single id in omega arith

    more : has m.id (noted_ids ns) ≡ false → times id (noted_ids ns ++ m.id ∷ []) ≤ 1
    more h = subst (λ n. n ≤ 1) (sym (times-both id (noted_ids ns) (m.id ∷ []))) (by (nat_eq m.id id) refl h)

-- as the code finds it
module _ (m : Note) (ns slice : List Note) (r : Bool) (same : slice ≡ ns) (found : r ≡ list_any (λ (n : Note). nat_eq n.id m.id) slice) where
  found-has : r ≡ has m.id (noted_ids ns)
  found-has = found ∙ (ap (λ (xs : List Note). list_any (λ (n : Note). nat_eq n.id m.id) xs) same ∙ any-has m.id ns)

  pub noted-more : r ≡ false → ns ++ m ∷ [] ≡ with_note m ns
  noted-more e = ap (λ b. cond b ns (ns ++ m ∷ [])) (sym e ∙ found-has)

  pub noted-same : r ≡ true → ns ≡ with_note m ns
  noted-same e = ap (λ b. cond b ns (ns ++ m ∷ [])) (sym e ∙ found-has)
