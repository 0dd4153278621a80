-- The numbers of instructions rise along each block.
use Rattle.std.proofs.Common.{drop, ◌≡◌, ◌<◌, ◌≤◌, ◌+◌, ℕ, zero, suc, Bool, true, false, cond, eqb, length, List, [], ◌∷◌, ◌++◌, take, Some, refl, sym, ap, ◌∙◌, subst, arith, eq-eqb, append_assoc}
use Rattle.std.specs.Prelude.{slice_get}
use Rattle.slot_index.specs.Order.{ids, place, number_of, Has, IsNumbered}
use Rattle.slot_index.proofs.Present.{number_of-above}
use Rattle.slot_index.proofs.Ordered.{numbers_tell_order}
use Rattle.mir_func.specs.declared.func.Block.{Block}
use Rattle.slot_index.specs.Renewed.{low_end}
use Rattle.live_lanes.proofs.Ordered.{last-more}
use Rattle.live_lanes.specs.Ordered.{last_id, times, ids_of, all_ids, AreSingle, AreRising}

absent-before : (x : ℕ) (before rest : List ℕ) → times x (before ++ x ∷ rest) ≤ 1 → times x before ≡ 0
absent-before x [] rest h = refl
absent-before x (y ∷ before) rest h = go (eqb y x) refl h (absent-before x before rest)
  where
    one : (zs : List ℕ) → 1 ≤ times x (zs ++ x ∷ rest)
    one [] = ap-le (eqb x x) (eq-eqb x x refl)
      where
        ap-le : (t : Bool) → t ≡ true → 1 ≤ cond t (suc (times x rest)) (times x rest)
        ap-le true e = omega arith
        ap-le false e = absurd (cc)
    one (z ∷ zs) = more (eqb z x) (one zs)
      where
        more : (t : Bool) → 1 ≤ times x (zs ++ x ∷ rest) → 1 ≤ cond t (suc (times x (zs ++ x ∷ rest))) (times x (zs ++ x ∷ rest))
        more true h = omega arith
        more false h = h

    go : (t : Bool) → eqb y x ≡ t → cond t (suc (times x (before ++ x ∷ rest))) (times x (before ++ x ∷ rest)) ≤ 1 → (times x (before ++ x ∷ rest) ≤ 1 → times x before ≡ 0) → cond t (suc (times x before)) (times x before) ≡ 0
    go true e h ih = absurd (omega (arith, one before, h))
    go false e h ih = ih h

place-at : (x : ℕ) (before rest : List ℕ) → times x before ≡ 0 → place x (before ++ x ∷ rest) ≡ length before
place-at x [] rest h = let e : eqb x x ≡ true = eq-eqb x x refl in rw e refl
place-at x (y ∷ before) rest h = go (eqb y x) refl h (place-at x before rest)
  where
    go : (t : Bool) → eqb y x ≡ t → cond t (suc (times x before)) (times x before) ≡ 0 → (times x before ≡ 0 → place x (before ++ x ∷ rest) ≡ length before) → place x (y ∷ (before ++ x ∷ rest)) ≡ suc (length before)
    go true e h ih = absurd (omega (arith, h))
    go false e h ih = let s : place x (y ∷ (before ++ x ∷ rest)) ≡ suc (place x (before ++ x ∷ rest)) = rw e (omega arith) in omega (arith, s, ih h)

length-both : (xs ys : List ℕ) → length (xs ++ ys) ≡ length xs + length ys
length-both [] ys = omega arith
length-both (x ∷ xs) ys = omega (arith, length-both xs ys)

module _ (slots : List (ℕ × ℕ)) (numbered : IsNumbered slots) (small : low_end (last_id (ids slots)) slots < 18446744073709551616) (single : AreSingle (ids slots)) where
  at : (before rest : List ℕ) (x : ℕ) → ids slots ≡ before ++ x ∷ rest → place x (ids slots) ≡ length before
  at before rest x e = ap (place x) e ∙ place-at x before rest (absent-before x before rest (subst (λ xs. times x xs ≤ 1) e (single x)))

  there : (before rest : List ℕ) (x : ℕ) → ids slots ≡ before ++ x ∷ rest → Has slots x
  there before rest x e = omega (arith, at before rest x e, ap length e, length-both before (x ∷ rest))

  next : (before rest : List ℕ) (x y : ℕ) → ids slots ≡ before ++ x ∷ y ∷ rest → number_of slots x < number_of slots y
  next before rest x y e =
      let f : ids slots ≡ (before ++ x ∷ []) ++ y ∷ rest = e ∙ sym (append_assoc before (x ∷ []) (y ∷ rest)) in
      let lt : place x (ids slots) < place y (ids slots) = omega (arith, at before (y ∷ rest) x e, at (before ++ x ∷ []) rest y f, length-both before (x ∷ [])) in
      (numbers_tell_order slots numbered.rising x y (there before (y ∷ rest) x e) (there (before ++ x ∷ []) rest y f)).1 lt

  below : (before rest : List ℕ) (x : ℕ) → ids slots ≡ before ++ x ∷ rest → number_of slots x < 18446744073709551616
  below before [] x e = subst (λ q. low_end q slots < 18446744073709551616) (ap last_id e ∙ last-more before x) small
  below before (y ∷ rest) x e = omega (arith, next before rest x y e, below (before ++ x ∷ []) rest y (e ∙ sym (append_assoc before (x ∷ []) (y ∷ rest))))

  rising : (before xs rest : List ℕ) (n : ℕ) → ids slots ≡ before ++ (xs ++ rest) → ((x : ℕ) (ys : List ℕ) → xs ≡ x ∷ ys → n < number_of slots x) → AreRising slots n xs
  rising before [] rest n e low = tt
  rising before (x ∷ []) rest n e low = (low x [] refl, below before rest x e, tt)
  rising before (x ∷ y ∷ xs) rest n e low = (low x (y ∷ xs) refl, below before ((y ∷ xs) ++ rest) x e, rising (before ++ x ∷ []) (y ∷ xs) rest (number_of slots x) (e ∙ sym (append_assoc before (x ∷ []) ((y ∷ xs) ++ rest))) (λ z zs f. let same : y ≡ z = cc in subst (λ k. number_of slots x < number_of slots k) same (next before (xs ++ rest) x y e)))

  pub rising-first : (before xs rest : List ℕ) → ids slots ≡ before ++ (xs ++ rest) → AreRising slots 0 xs
  rising-first before xs rest e = rising before xs rest 0 e (λ x ys f. number_of-above 0 slots x numbered.positive (there before (ys ++ rest) x (e ∙ ap (λ zs. before ++ (zs ++ rest)) f)))

all-around : (bs : List Block) (k : ℕ) (b : Block) → slice_get bs k ≡ Some b → all_ids bs ≡ all_ids (take k bs) ++ (ids_of b.instrs ++ all_ids (drop (suc k) bs))
all-around [] k b e = absurd (cc)
all-around (c ∷ bs) zero b e = let same : c ≡ b = cc in ap (λ x. ids_of x.instrs ++ all_ids bs) same
all-around (c ∷ bs) (suc k) b e = ap (λ xs. ids_of c.instrs ++ xs) (all-around bs k b e) ∙ sym (append_assoc (ids_of c.instrs) (all_ids (take k bs)) (ids_of b.instrs ++ all_ids (drop (suc k) bs)))

pub block-rising : (slots : List (ℕ × ℕ)) (bs : List Block) → IsNumbered slots → low_end (last_id (ids slots)) slots < 18446744073709551616 → AreSingle (all_ids bs) → ids slots ≡ all_ids bs → (k : ℕ) (b : Block) → slice_get bs k ≡ Some b → AreRising slots 0 (ids_of b.instrs)
block-rising slots bs numbered small single same k b e = rising-first slots numbered small (subst AreSingle (sym same) single) (all_ids (take k bs)) (ids_of b.instrs) (all_ids (drop (suc k) bs)) (same ∙ all-around bs k b e)
