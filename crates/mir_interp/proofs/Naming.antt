-- Lists of names.
use Rattle.std.proofs.Common.{◌≡◌, ℕ, ◌<◌, ◌++◌, List, [], ◌∷◌, length, Bool, true, false, cond, refl, sym, ap, ◌∙◌, get_or}
use Rattle.std.specs.Prelude.{◌&&◌, nat_eq, slice_get, Some}
use Rattle.std.proofs.lemmas.Option.{slice_get-get_or}
use Rattle.std.proofs.lemmas.Bool.{eqb-true}
use Rattle.std.specs.List.{list_any}
use Rattle.target_base.specs.Storage.{same_numbers}
use Rattle.mir_interp.specs.Stands.{first_seen}

pub first_seen_append : (names xs ys : List (List ℕ)) → first_seen names (xs ++ ys) ≡ first_seen (first_seen names xs) ys
first_seen_append names [] ys = refl
first_seen_append names (x ∷ xs) ys = first_seen_append (cond (list_any (same_numbers x) names) names (names ++ x ∷ [])) xs ys

both_hold : (b c : Bool) → (b && c) ≡ true → (b ≡ true) × (c ≡ true)
both_hold true c h = (refl, h)
both_hold false c h = absurd (cc)

-- names that the test finds equal are equal
pub same_numbers_equal : (xs ys : List ℕ) → same_numbers xs ys ≡ true → xs ≡ ys
same_numbers_equal [] [] h = refl
same_numbers_equal [] (y ∷ ys) h = absurd (cc)
same_numbers_equal (x ∷ xs) [] h = absurd (cc)
same_numbers_equal (x ∷ xs) (y ∷ ys) h =
    let p = both_hold (nat_eq x y) (same_numbers xs ys) h in
    ap (λ t. t ∷ xs) (eqb-true x y p.0) ∙ ap (λ t. y ∷ t) (same_numbers_equal xs ys p.1)

pub found_there : (names : List (List ℕ)) (m : ℕ) (name item other : List ℕ) → m < length names → item ≡ get_or names m item → other ≡ item → same_numbers other name ≡ true → slice_get names m ≡ Some name
found_there names m name item other h e f g =
    slice_get-get_or names m item h ∙ ap (λ t. Some t) (sym e ∙ (sym f ∙ same_numbers_equal other name g))
