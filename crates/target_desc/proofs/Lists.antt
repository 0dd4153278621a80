-- Lists that are read one after another, by a reader of one.
use Rattle.std.proofs.Common.{◌≡◌, ℕ, ◌<◌, ◌≤◌, ◌+◌, List, [], ◌∷◌, ◌++◌, length, drop, get_or, Some, None, refl, ap, sym, ◌∙◌}
use Rattle.std.specs.Prelude.{Option, option_and_then}
use Rattle.std.proofs.lemmas.List.{drop_more, drop_all}
use Rattle.target_desc.specs.declared.names.NameTables.{NameTables}
use Rattle.target_desc.specs.Words.{meaning_in, text_form_words}
use Rattle.target_desc.specs.Forms.{role_of, roles_of, text_forms_of}
use Rattle.target_desc.specs.Resolving.{unit_named, units_named, reg_named, regs_named, role_named, roles_named}
use Rattle.target_desc.proofs.Onto.{onto, onto_more, onto_none}

-- a reader of one, and a reader of all that reads one after another
pub record ReadsEach {X Y : Type 0} (one : X → Option Y) (all : List X → Option (List Y)) : Type 0 where
  pub none : all [] ≡ Some []
  pub more : (x : X) (xs : List X) → all (x ∷ xs) ≡ option_and_then (λ y. option_and_then (λ ys. Some (y ∷ ys)) (all xs)) (one x)

module _ {X Y : Type 0} (one : X → Option Y) (all : List X → Option (List Y)) (reads : ReadsEach one all) where
  -- behind a first element that isn't read
  pub each_stops : (made : List Y) (x : X) (xs : List X) → None ≡ one x → None ≡ onto made (all (x ∷ xs))
  each_stops made x xs h = sym (ap (onto made) (reads.more x xs) ∙ ap (λ o. onto made (option_and_then (λ y. option_and_then (λ ys. Some (y ∷ ys)) (all xs)) o)) (sym h))

  -- behind one that is read
  pub each_goes : (made : List Y) (x : X) (xs : List X) (y : Y) → Some y ≡ one x → onto made (all (x ∷ xs)) ≡ onto (made ++ y ∷ []) (all xs)
  each_goes made x xs y h = ap (onto made) (reads.more x xs) ∙ ap (λ o. onto made (option_and_then (λ y. option_and_then (λ ys. Some (y ∷ ys)) (all xs)) o)) (sym h) ∙ onto_more made y (all xs)

  pub each_ends : (made : List Y) → Some made ≡ onto made (all [])
  each_ends made = sym (ap (onto made) reads.none ∙ onto_none made)

  -- the same in a loop over the list, at a place
  here : (made : List Y) (xs : List X) (i : ℕ) (x : X) → i < length xs → x ≡ get_or xs i x → onto made (all (drop i xs)) ≡ onto made (all (x ∷ drop (i + 1) xs))
  here made xs i x h e = ap (λ ys. onto made (all ys)) (drop_more xs i x h) ∙ ap (λ z. onto made (all (z ∷ drop (i + 1) xs))) (sym e)

  pub loop_stops : (made : List Y) (xs : List X) (i : ℕ) (x : X) → all xs ≡ onto made (all (drop i xs)) → i < length xs → x ≡ get_or xs i x → None ≡ one x → None ≡ all xs
  loop_stops made xs i x inv h e none = each_stops made x (drop (i + 1) xs) none ∙ sym (inv ∙ here made xs i x h e)

  pub loop_goes : (made new : List Y) (xs : List X) (i : ℕ) (x : X) (y : Y) → all xs ≡ onto made (all (drop i xs)) → i < length xs → x ≡ get_or xs i x → Some y ≡ one x → new ≡ made ++ y ∷ [] → all xs ≡ onto new (all (drop (i + 1) xs))
  loop_goes made new xs i x y inv h e some put = inv ∙ here made xs i x h e ∙ each_goes made x (drop (i + 1) xs) y some ∙ ap (λ m. onto m (all (drop (i + 1) xs))) (sym put)

  pub loop_ends : (made : List Y) (xs : List X) (i : ℕ) → all xs ≡ onto made (all (drop i xs)) → length xs ≤ i → Some made ≡ all xs
  loop_ends made xs i inv h = each_ends made ∙ sym (inv ∙ ap (λ ys. onto made (all ys)) (drop_all i xs h))

pub reads_units : (names : List (List ℕ)) → ReadsEach (unit_named names) (units_named names)
unfolding units_named
reads_units names = record { none = refl; more = λ w ws. refl }

pub reads_regs : (names : List (List ℕ)) → ReadsEach (reg_named names) (regs_named names)
unfolding regs_named
reads_regs names = record { none = refl; more = λ w ws. refl }

pub reads_roles : (names : NameTables) → ReadsEach (role_named names) (roles_named names)
unfolding roles_named
reads_roles names = record { none = refl; more = λ r rs. refl }

pub reads_role_words : ReadsEach role_of roles_of
unfolding roles_of
reads_role_words = record { none = refl; more = λ w ws. refl }

pub reads_form_words : ReadsEach (meaning_in text_form_words) text_forms_of
unfolding text_forms_of
reads_form_words = record { none = refl; more = λ w ws. refl }
