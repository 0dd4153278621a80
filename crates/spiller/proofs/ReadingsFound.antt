-- Which definitions reach a reading, by what is listed at them.
use Rattle.std.proofs.Common.{◌≡◌, ◌∙◌, ℕ, zero, suc, ◌+◌, ◌<◌, Bool, true, false, cond, List, [], ◌∷◌, ◌++◌, Option, Some, None, map, filter, length, get_or, take, drop, refl, sym, ap, arith}
use Rattle.std.specs.Prelude.{is_some}
use Rattle.std.proofs.lemmas.List.{map-append, take_more, append-nil}
use Rattle.std.proofs.lemmas.List.Elements.{filter-append}
use Rattle.lowering_laws.proofs.Arrivals.{eqb-sym}
use Rattle.spiller.specs.declared.reaching.Definition.{Definition}
use Rattle.spiller.specs.Readings.{alone}

-- the one that passes a test

pub option_list : Option ℕ → List ℕ
option_list None = []
option_list (Some x) = x ∷ []

pub passing : (Definition → Bool) → List Definition → List ℕ
passing p ds = map (λ d. d.id) (filter p ds)

passing-join : (p : Definition → Bool) (xs ys : List Definition) → passing p (xs ++ ys) ≡ passing p xs ++ passing p ys
unfolding passing
passing-join p xs ys = ap (map (λ (d : Definition). d.id)) (filter-append p xs ys) ∙ map-append (λ (d : Definition). d.id) (filter p xs) (filter p ys)

pub passing-none : (p : Definition → Bool) → passing p [] ≡ option_list None
unfolding passing option_list
passing-none p = refl

pub passing-skip : (p : Definition → Bool) (ds : List Definition) (k : ℕ) (d : Definition) (only : Option ℕ) → k < length ds → d ≡ get_or ds k d → p d ≡ false → passing p (take k ds) ≡ option_list only → passing p (take (k + 1) ds) ≡ option_list only
unfolding passing
passing-skip p ds k d only h e n was =
    ap (passing p) (take_more ds k d h ∙ ap (λ x. take k ds ++ x ∷ []) (sym e))
    ∙ (passing-join p (take k ds) (d ∷ [])
    ∙ (ap (λ b. passing p (take k ds) ++ map (λ (x : Definition). x.id) (cond b (d ∷ []) [])) n ∙ (append-nil (passing p (take k ds)) ∙ was)))

pub passing-first : (p : Definition → Bool) (ds : List Definition) (k : ℕ) (d : Definition) → k < length ds → d ≡ get_or ds k d → p d ≡ true → passing p (take k ds) ≡ option_list None → passing p (take (k + 1) ds) ≡ option_list (Some d.id)
unfolding passing option_list
passing-first p ds k d h e y was =
    ap (passing p) (take_more ds k d h ∙ ap (λ x. take k ds ++ x ∷ []) (sym e))
    ∙ (passing-join p (take k ds) (d ∷ [])
    ∙ (ap (λ b. passing p (take k ds) ++ map (λ (x : Definition). x.id) (cond b (d ∷ []) [])) y ∙ ap (λ xs. xs ++ d.id ∷ []) was))

front-and-rest : {X : Type 0} (xs : List X) (k : ℕ) (d : X) → k < length xs → xs ≡ take k xs ++ get_or xs k d ∷ drop (k + 1) xs
front-and-rest [] k d h = absurd (omega arith)
front-and-rest (x ∷ xs) zero d h = refl
front-and-rest {X} (x ∷ xs) (suc k) d h = let e : suc (k + 1) ≡ suc k + 1 = omega arith in ap (λ ys. x ∷ ys) (front-and-rest xs k d (omega arith)) ∙ ap (λ n. x ∷ (take k xs ++ get_or xs k d ∷ drop n (x ∷ xs))) e

-- two are not one
pub passing-two : (p : Definition → Bool) (ds : List Definition) (k : ℕ) (d : Definition) (one : ℕ) → k < length ds → d ≡ get_or ds k d → p d ≡ true → passing p (take k ds) ≡ option_list (Some one) → None ≡ alone (map (λ d. d.id) (filter p ds))
unfolding passing option_list
passing-two p ds k d one h e y was =
    let all : passing p ds ≡ one ∷ d.id ∷ passing p (drop (k + 1) ds) =
    ap (passing p) (front-and-rest ds k d h ∙ ap (λ x. take k ds ++ x ∷ drop (k + 1) ds) (sym e))
    ∙ (passing-join p (take k ds) (d ∷ drop (k + 1) ds)
    ∙ (ap (λ xs. xs ++ passing p (d ∷ drop (k + 1) ds)) was
    ∙ ap (λ b. one ∷ map (λ (x : Definition). x.id) (cond b (d ∷ filter p (drop (k + 1) ds)) (filter p (drop (k + 1) ds)))) y)) in
    sym (ap alone all)

pub passing-second : (p : Definition → Bool) (ds : List Definition) (k : ℕ) (d : Definition) (only : Option ℕ) → k < length ds → d ≡ get_or ds k d → p d ≡ true → is_some only ≡ true → passing p (take k ds) ≡ option_list only → None ≡ alone (map (λ d. d.id) (filter p ds))
passing-second p ds k d None h e y some was = absurd (cc)
passing-second p ds k d (Some one) h e y some was = passing-two p ds k d one h e y was

pub passing-new : (p : Definition → Bool) (ds : List Definition) (k : ℕ) (d : Definition) (only : Option ℕ) → k < length ds → d ≡ get_or ds k d → p d ≡ true → is_some only ≡ false → passing p (take k ds) ≡ option_list only → passing p (take (k + 1) ds) ≡ option_list (Some d.id)
passing-new p ds k d None h e y none was = passing-first p ds k d h e y was
passing-new p ds k d (Some one) h e y none was = absurd (cc)

pub passing-all : (p : Definition → Bool) (ds : List Definition) (only : Option ℕ) → passing p ds ≡ option_list only → only ≡ alone (map (λ d. d.id) (filter p ds))
unfolding passing option_list
passing-all p ds None e = sym (ap alone e)
passing-all p ds (Some x) e = sym (ap alone e)
