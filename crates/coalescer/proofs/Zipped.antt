-- Copies of one block more.
use Rattle.std.proofs.Common.{◌≡◌, ◌∙◌, ◌∷◌, ◌++◌, ◌+◌, ◌<◌, ◌≤◌, ℕ, zero, suc, List, [], length, take, get_or, min, refl, sym, ap, arith}
use Rattle.std.specs.Prelude.{flat_map, zip}
use Rattle.std.proofs.lemmas.List.{take_more, take_all}
use Rattle.std.proofs.lemmas.List.Concat.{flat_map-append}
use Rattle.std.proofs.lemmas.Slice.Zip.{get_or-zip, length-zip}

module _ {A B Y : Type 0} (g : A × B → List Y) (xs : List A) (ys : List B) where
  append-none : (zs : List Y) → zs ++ [] ≡ zs
  append-none [] = refl
  append-none (z ∷ zs) = ap (λ w. z ∷ w) (append-none zs)

  pub one-more : (k : ℕ) (x : A) (y : B) → k < length xs → k < length ys → x ≡ get_or xs k x → y ≡ get_or ys k y → flat_map g (take (k + 1) (zip xs ys)) ≡ flat_map g (take k (zip xs ys)) ++ g (x, y)
  one-more k x y a b e f =
      let within : k < length (zip xs ys) = let l = length-zip xs ys in omega (arith, l) in
      let at : get_or (zip xs ys) k (x, y) ≡ (x, y) = get_or-zip xs ys k (x, y) a b ∙ (λ i. (sym e i, sym f i)) in
      ap (flat_map g) (take_more (zip xs ys) k (x, y) within)
      ∙ flat_map-append g (take k (zip xs ys)) (get_or (zip xs ys) k (x, y) ∷ [])
      ∙ ap (λ zs. flat_map g (take k (zip xs ys)) ++ zs) (append-none (g (get_or (zip xs ys) k (x, y))) ∙ ap g at)

  pub all-of-them : (k : ℕ) → min (length xs) (length ys) ≤ k → flat_map g (take k (zip xs ys)) ≡ flat_map g (zip xs ys)
  all-of-them k h = ap (flat_map g) (take_all k (zip xs ys) (let l = length-zip xs ys in omega (arith, l)))

pub get_or-own : (fs : List ℕ) (k : ℕ) → k < length fs → get_or fs k 0 ≡ get_or fs k (get_or fs k 0)
get_or-own [] k h = absurd (omega (arith, h))
get_or-own (f ∷ fs) zero h = refl
get_or-own (f ∷ fs) (suc k) h = get_or-own fs k (omega (arith, h))
