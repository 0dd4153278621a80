-- Lists that have the same elements.
use Rattle.std.proofs.Common.{◌≡◌, ◌⊎◌, ◌<◌, ◌+◌, ℕ, length, List, [], ◌∷◌, ◌++◌, take, get_or, append_assoc, sym, ap, ◌∙◌, subst, inl, inr}
use Rattle.std.specs.List.{flat_map}
use Rattle.std.proofs.lemmas.List.{take_more, flat_map_more}
use Rattle.mir_meaning.specs.Paths.{Among}
use Rattle.live_lanes.proofs.Numbered.{among-left, among-right, among-split}
use Rattle.live_edits.specs.Leading.{AreAlike}

pub alike-equal : {X : Type 0} (xs ys : List X) → xs ≡ ys → AreAlike xs ys
alike-equal xs ys e r = (subst (Among r) e, subst (Among r) (sym e))

pub alike-then : {X : Type 0} (xs ys zs : List X) → AreAlike xs ys → AreAlike ys zs → AreAlike xs zs
alike-then xs ys zs f g r = (λ a. (g r).0 ((f r).0 a), λ a. (f r).1 ((g r).1 a))

first-half : {X : Type 0} (xs ys zs : List X) (r : X) → (Among r xs → Among r ys) → Among r (xs ++ zs) → Among r (ys ++ zs)
first-half xs ys zs r f a = go (among-split r xs zs a)
  where
    go : Among r xs ⊎ Among r zs → Among r (ys ++ zs)
    go (inl b) = among-left r ys zs (f b)
    go (inr b) = among-right r ys zs b

-- the same is added to both
pub alike-before : {X : Type 0} (xs ys zs : List X) → AreAlike xs ys → AreAlike (xs ++ zs) (ys ++ zs)
alike-before xs ys zs f r = (first-half xs ys zs r (f r).0, first-half ys xs zs r (f r).1)

-- what is added is there already
pub alike-own : {X : Type 0} (xs ys : List X) → ((r : X) → Among r ys → Among r xs) → AreAlike xs (xs ++ ys)
alike-own xs ys f r = (among-left r xs ys, λ a. go (among-split r xs ys a))
  where
    go : Among r xs ⊎ Among r ys → Among r xs
    go (inl b) = b
    go (inr b) = f r b

-- one more element, and then another one
pub alike-two : {X : Type 0} (xs ys zs : List X) (x y : X) → AreAlike ys (xs ++ x ∷ []) → AreAlike zs (ys ++ y ∷ []) → AreAlike zs (xs ++ x ∷ y ∷ [])
alike-two xs ys zs x y a b =
    alike-then zs (ys ++ y ∷ []) (xs ++ x ∷ y ∷ []) b
    (subst (AreAlike (ys ++ y ∷ [])) (append_assoc xs (x ∷ []) (y ∷ [])) (alike-before ys (xs ++ x ∷ []) (y ∷ []) a))

-- what is listed for elements one by one, and for one more
pub alike-more : {X Y : Type 0} (f : X → List Y) (from mid to : List Y) (xs : List X) (k : ℕ) (x d : X) → k < length xs → x ≡ get_or xs k d → AreAlike mid (from ++ flat_map f (take k xs)) → AreAlike to (mid ++ f x) → AreAlike to (from ++ flat_map f (take (k + 1) xs))
alike-more f from mid to xs k x d h is e t =
    subst (AreAlike to) (flat_map_more f from (take k xs) x ∙ ap (λ q. from ++ flat_map f q) (ap (λ y. take k xs ++ y ∷ []) is ∙ sym (take_more xs k d h)))
    (alike-then to (mid ++ f x) ((from ++ flat_map f (take k xs)) ++ f x) t (alike-before mid (from ++ flat_map f (take k xs)) (f x) e))
