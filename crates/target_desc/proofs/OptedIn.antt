-- What `form` and `flags` lines opt in, and that their printed words are read back.
use Rattle.std.proofs.Common.{◌≡◌, ℕ, List, [], ◌∷◌, ◌++◌, append_assoc, Some, Bool, true, false, refl, ap, sym, ◌∙◌, not, fold}
use Rattle.std.specs.List.{list_all}
use Rattle.std.proofs.lemmas.List.{append-nil}
use Rattle.target_base.specs.Names.{is_flag_word, are_distinct_names}
use Rattle.target_base.specs.Rules.{are_flag_words}
use Rattle.target_base.proofs.Tests.{first_of_both, second_of_both}
use Rattle.target_desc.specs.declared.raw.TextForm.{TextForm}
use Rattle.target_desc.specs.declared.raw.TextForm.TheVariants as text_forms
use Rattle.target_desc.specs.declared.draft.Options.{Options}
use Rattle.word_set.specs.Words.{is_fresh, with_name}
use Rattle.target_desc.specs.Forms.{text_forms_of}
use Rattle.target_desc.specs.Drafts.{no_options}
use Rattle.target_desc.specs.Adding.{with_form}
use Rattle.target_desc.specs.Printed.{form_words}
use Rattle.target_desc.proofs.Grown.{both, all_push, distinct_push, apart_before}
use Rattle.target_desc.proofs.Spaced.{is_word}

flag_kept : (names : List (List ℕ)) (w : List ℕ) (b : Bool) → is_fresh names w ≡ b → are_flag_words names ≡ true → is_flag_word w ≡ true → are_flag_words (with_name names w) ≡ true
flag_kept names w true e h g = rw e (both _ _ (all_push is_flag_word names w (first_of_both _ _ h) g) (distinct_push names w (second_of_both _ _ h) e))
flag_kept names w false e h g = rw e h

-- with further words of `target-flags` they are still distinct ones
pub flags_kept : (names ws : List (List ℕ)) → are_flag_words names ≡ true → list_all is_flag_word ws ≡ true → are_flag_words (fold with_name names ws) ≡ true
flags_kept names [] h g = h
flags_kept names (w ∷ ws) h g = flags_kept (with_name names w) ws (flag_kept names w (is_fresh names w) refl h (first_of_both _ _ g)) (second_of_both _ _ g)

form_keeps : (o : Options) (f : TextForm) → (with_form o f).flags ≡ o.flags
form_keeps o text_forms.Offset = refl
form_keeps o _ = refl

-- a form of text leaves the words alone
pub forms_keep : (o : Options) (fs : List TextForm) → (fold with_form o fs).flags ≡ o.flags
forms_keep o [] = refl
forms_keep o (f ∷ fs) = forms_keep (with_form o f) fs ∙ form_keeps o f

abbrev form_if : Bool → TextForm → List TextForm
form_if true f = f ∷ []
form_if false f = []

-- the forms of text that are opted in
abbrev pub forms_in : Options → List TextForm
forms_in o = form_if o.offsets text_forms.Offset ++ form_if o.pool text_forms.Pool ++ form_if o.noreg text_forms.Noreg ++ form_if o.open_blocks text_forms.Open

pub record FormsBack (o : Options) : Type 0 where
  pub read : text_forms_of (form_words o) ≡ Some (forms_in o)
  pub same : fold with_form no_options (forms_in o) ≡ record o { flags = [] }
  pub are_words : list_all is_word (form_words o) ≡ true

each_form : (a b c d : Bool) (ws : List (List ℕ)) → FormsBack (record { offsets = a; pool = b; noreg = c; open_blocks = d; flags = ws })
unfolding text_forms_of
each_form true true true true ws = record { read = refl; same = refl; are_words = refl }
each_form true true true false ws = record { read = refl; same = refl; are_words = refl }
each_form true true false true ws = record { read = refl; same = refl; are_words = refl }
each_form true true false false ws = record { read = refl; same = refl; are_words = refl }
each_form true false true true ws = record { read = refl; same = refl; are_words = refl }
each_form true false true false ws = record { read = refl; same = refl; are_words = refl }
each_form true false false true ws = record { read = refl; same = refl; are_words = refl }
each_form true false false false ws = record { read = refl; same = refl; are_words = refl }
each_form false true true true ws = record { read = refl; same = refl; are_words = refl }
each_form false true true false ws = record { read = refl; same = refl; are_words = refl }
each_form false true false true ws = record { read = refl; same = refl; are_words = refl }
each_form false true false false ws = record { read = refl; same = refl; are_words = refl }
each_form false false true true ws = record { read = refl; same = refl; are_words = refl }
each_form false false true false ws = record { read = refl; same = refl; are_words = refl }
each_form false false false true ws = record { read = refl; same = refl; are_words = refl }
each_form false false false false ws = record { read = refl; same = refl; are_words = refl }

-- the words of a `form` line are read back
pub forms_back : (o : Options) → FormsBack o
forms_back o = each_form o.offsets o.pool o.noreg o.open_blocks o.flags

flags_from : (done rest : List (List ℕ)) → are_distinct_names (done ++ rest) ≡ true → fold with_name done rest ≡ done ++ rest
flags_from done [] h = sym (append-nil done)
flags_from done (w ∷ rest) h =
    let fresh : is_fresh done w ≡ true = ap not (apart_before done w rest h) in
    let put : with_name done w ≡ done ++ w ∷ [] = rw fresh refl in
    ap (λ names. fold with_name names rest) put ∙ flags_from (done ++ w ∷ []) rest (ap are_distinct_names (append_assoc done (w ∷ []) rest) ∙ h) ∙ append_assoc done (w ∷ []) rest

-- distinct words are added one behind the other
pub flags_back : (ws : List (List ℕ)) → are_flag_words ws ≡ true → fold with_name [] ws ≡ ws
flags_back ws h = flags_from [] ws (second_of_both _ _ h)
