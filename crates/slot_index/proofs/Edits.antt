-- A slot put in or taken out: what stays distinct, and the numbers of the ids afterwards.
use Rattle.std.proofs.Common.{◌≡◌, ℕ, true, false, cond, eqb, List, [], ◌∷◌, refl, sym, ap, ◌∙◌, ⊎_elim, zero, suc}
use Rattle.std.specs.List.{AllByRecursion, IsDistinct, insert, remove}
use Rattle.std.proofs.lemmas.Bool.{cases_Bool, eqb-true, eqb-false, ne_eqb}
use Rattle.std.proofs.lemmas.Map.Keys.{IsDistinct-head, IsDistinct-tail, IsDistinct-cons}
use Rattle.slot_index.specs.Order.{ids, place, Has, number_of}
use Rattle.slot_index.proofs.Present.{place_head, place_tail, number_tail, Has-head, Has-behind}

-- ---- what holds of each element

pub AllByRecursion-insert : {X : Type 0} (P : X → Type 0) (xs : List X) (p : ℕ) (x : X) → P x → AllByRecursion P xs → AllByRecursion P (insert xs p x)
AllByRecursion-insert P [] zero x h all = (h, tt)
AllByRecursion-insert P [] (suc p) x h all = (h, tt)
AllByRecursion-insert P (y ∷ xs) zero x h all = (h, all)
AllByRecursion-insert P (y ∷ xs) (suc p) x h all = (all.0, AllByRecursion-insert P xs p x h all.1)

pub AllByRecursion-remove : {X : Type 0} (P : X → Type 0) (xs : List X) (p : ℕ) → AllByRecursion P xs → AllByRecursion P (remove xs p)
AllByRecursion-remove P [] zero all = tt
AllByRecursion-remove P [] (suc p) all = tt
AllByRecursion-remove P (y ∷ xs) zero all = all.1
AllByRecursion-remove P (y ∷ xs) (suc p) all = (all.0, AllByRecursion-remove P xs p all.1)

pub AllByRecursion-from_insert : {X : Type 0} (P : X → Type 0) (xs : List X) (p : ℕ) (x : X) → AllByRecursion P (insert xs p x) → AllByRecursion P xs
AllByRecursion-from_insert P [] p x all = tt
AllByRecursion-from_insert P (y ∷ xs) zero x all = all.1
AllByRecursion-from_insert P (y ∷ xs) (suc p) x all = (all.0, AllByRecursion-from_insert P xs p x all.1)

-- ---- the ids

pub ids-insert : (slots : List (ℕ × ℕ)) (p number id : ℕ) → ids (insert slots p (number, id)) ≡ insert (ids slots) p id
ids-insert [] zero number id = refl
ids-insert [] (suc p) number id = refl
ids-insert (s ∷ slots) zero number id = refl
ids-insert (s ∷ slots) (suc p) number id = ap (λ r. s.1 ∷ r) (ids-insert slots p number id)

pub ids-remove : (slots : List (ℕ × ℕ)) (p : ℕ) → ids (remove slots p) ≡ remove (ids slots) p
ids-remove [] zero = refl
ids-remove [] (suc p) = refl
ids-remove (s ∷ slots) zero = refl
ids-remove (s ∷ slots) (suc p) = ap (λ r. s.1 ∷ r) (ids-remove slots p)

-- the id is none of these
abbrev pub IsNew : ℕ → List ℕ → Type 0
IsNew id xs = AllByRecursion (λ y. eqb id y ≡ false) xs

flipped : (a b : ℕ) → eqb a b ≡ false → eqb b a ≡ false
flipped a b e = ne_eqb b a (λ s. eqb-false a b e (sym s))

pub new_from_absent : (slots : List (ℕ × ℕ)) (id : ℕ) → (Has slots id → ⊥) → IsNew id (ids slots)
new_from_absent [] id h = tt
new_from_absent (s ∷ slots) id h =
    (⊎_elim (λ e. absurd (h (Has-head s slots id e))) (λ e. flipped s.1 id e) (cases_Bool (eqb s.1 id)), new_from_absent slots id (λ p. h (Has-behind s slots id p)))

pub absent_from_new : (slots : List (ℕ × ℕ)) (id : ℕ) → IsNew id (ids slots) → number_of slots id ≡ 0
absent_from_new [] id h = refl
absent_from_new (s ∷ slots) id h = number_tail s slots id (flipped id s.1 h.0) ∙ absent_from_new slots id h.1

pub IsDistinct-insert : (xs : List ℕ) (p id : ℕ) → IsNew id xs → IsDistinct eqb xs → IsDistinct eqb (insert xs p id)
IsDistinct-insert [] zero id new d = IsDistinct-cons eqb id [] tt d
IsDistinct-insert [] (suc p) id new d = IsDistinct-cons eqb id [] tt d
IsDistinct-insert (x ∷ xs) zero id new d = IsDistinct-cons eqb id (x ∷ xs) new d
IsDistinct-insert (x ∷ xs) (suc p) id new d =
    IsDistinct-cons eqb x (insert xs p id)
    (AllByRecursion-insert (λ y. eqb x y ≡ false) xs p id (flipped id x new.0) (IsDistinct-head eqb x xs d))
    (IsDistinct-insert xs p id new.1 (IsDistinct-tail eqb x xs d))

pub IsDistinct-remove : (xs : List ℕ) (p : ℕ) → IsDistinct eqb xs → IsDistinct eqb (remove xs p)
IsDistinct-remove [] zero d = d
IsDistinct-remove [] (suc p) d = d
IsDistinct-remove (x ∷ xs) zero d = IsDistinct-tail eqb x xs d
IsDistinct-remove (x ∷ xs) (suc p) d =
    IsDistinct-cons eqb x (remove xs p)
    (AllByRecursion-remove (λ y. eqb x y ≡ false) xs p (IsDistinct-head eqb x xs d))
    (IsDistinct-remove xs p (IsDistinct-tail eqb x xs d))

-- ---- the numbers

pub number_of-insert : (slots : List (ℕ × ℕ)) (p number id k : ℕ) → IsNew id (ids slots) → number_of (insert slots p (number, id)) k ≡ cond (eqb id k) number (number_of slots k)
number_of-insert [] zero number id k new = refl
number_of-insert [] (suc p) number id k new = refl
number_of-insert (s ∷ slots) zero number id k new = refl
number_of-insert (s ∷ slots) (suc p) number id k new = ⊎_elim at_head (at_tail (number_of-insert slots p number id k new.1)) (cases_Bool (eqb s.1 k))
  where
    at_head : eqb s.1 k ≡ true → number_of (insert (s ∷ slots) (suc p) (number, id)) k ≡ cond (eqb id k) number (number_of (s ∷ slots) k)
    at_head e =
        let other : eqb id k ≡ false = ne_eqb id k (λ i. eqb-false id s.1 new.0 (i ∙ sym (eqb-true s.1 k e))) in
        rw (e, other) refl

    at_tail : number_of (insert slots p (number, id)) k ≡ cond (eqb id k) number (number_of slots k) → eqb s.1 k ≡ false → number_of (insert (s ∷ slots) (suc p) (number, id)) k ≡ cond (eqb id k) number (number_of (s ∷ slots) k)
    at_tail rest e = rw e rest

pub number_of-remove : (slots : List (ℕ × ℕ)) (id k : ℕ) → IsDistinct eqb (ids slots) → number_of (remove slots (place id (ids slots))) k ≡ cond (eqb id k) 0 (number_of slots k)
number_of-remove [] id k d = ⊎_elim (λ e. rw e refl) (λ e. rw e refl) (cases_Bool (eqb id k))
number_of-remove (s ∷ slots) id k d = ⊎_elim at_head (at_tail (number_of-remove slots id k (IsDistinct-tail eqb s.1 (ids slots) d))) (cases_Bool (eqb s.1 id))
  where
    gone : IsNew s.1 (ids slots)
    gone = IsDistinct-head eqb s.1 (ids slots) d

    at_head : eqb s.1 id ≡ true → number_of (remove (s ∷ slots) (place id (ids (s ∷ slots)))) k ≡ cond (eqb id k) 0 (number_of (s ∷ slots) k)
    at_head e =
        let same = eqb-true s.1 id e in
        rw (place_head s slots id e, ← same) (⊎_elim (λ i. rw i (rw (← eqb-true s.1 k i) (absent_from_new slots s.1 gone))) (λ i. rw i refl) (cases_Bool (eqb s.1 k)))

    at_tail : number_of (remove slots (place id (ids slots))) k ≡ cond (eqb id k) 0 (number_of slots k) → eqb s.1 id ≡ false → number_of (remove (s ∷ slots) (place id (ids (s ∷ slots)))) k ≡ cond (eqb id k) 0 (number_of (s ∷ slots) k)
    at_tail rest e = rw (place_tail s slots id e) (⊎_elim (λ i. here i) (λ i. rw i rest) (cases_Bool (eqb s.1 k)))
      where
        here : eqb s.1 k ≡ true → number_of (s ∷ remove slots (place id (ids slots))) k ≡ cond (eqb id k) 0 (number_of (s ∷ slots) k)
        here i =
            let other : eqb id k ≡ false = ne_eqb id k (λ j. eqb-false s.1 id e (eqb-true s.1 k i ∙ sym j)) in
            rw (i, other) refl
