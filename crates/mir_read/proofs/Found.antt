-- A part of a text that is found, and control that goes on behind instructions.
use Rattle.std.proofs.Common.{◌≡◌, ℕ, ◌<◌, ◌≤◌, ◌+◌, List, [], ◌∷◌, ◌++◌, length, take, drop, get_or, Bool, true, false, not, refl, ap, sym, ◌∙◌}
use Rattle.std.specs.Prelude.{is_some, ◌||◌}
use Rattle.std.proofs.lemmas.List.{drop_more, take_more, drop_all, take_all}
use Rattle.target_base.specs.declared.types.Target.{Target}
use Rattle.mir_func.specs.declared.func.Instr.{Instr}
use Rattle.mir_func.specs.Binding.{does, ends_control}
use Rattle.mir_meaning.specs.Codes.{falls_through}
use Rattle.mir_lines.specs.Bytes.{behind_word}
use Rattle.mir_read.specs.Keys.{contains}

-- the part isn't found before this place
pub record ContainsGo (part text : List ℕ) (k : ℕ) : Type 0 where
  pub same : contains part text ≡ contains part (drop k text)

pub contains_begin : (part text : List ℕ) → ContainsGo part text 0
contains_begin part text = record { same = refl }

here : (part text : List ℕ) (k : ℕ) → k < length text → contains part (drop k text) ≡ (is_some (behind_word part (drop k text)) || contains part (drop (k + 1) text))
here part text k h = let e = drop_more text k 0 h in rw e refl

pub contains_found : (part text : List ℕ) (k : ℕ) → ContainsGo part text k → k < length text → is_some (behind_word part (drop k text)) ≡ true → true ≡ contains part text
contains_found part text k go h e = sym (go.same ∙ here part text k h ∙ ap (λ b. b || contains part (drop (k + 1) text)) e)

pub contains_go : (part text : List ℕ) (k : ℕ) → ContainsGo part text k → k < length text → is_some (behind_word part (drop k text)) ≡ false → ContainsGo part text (k + 1)
contains_go part text k go h e = record { same = go.same ∙ here part text k h ∙ ap (λ b. b || contains part (drop (k + 1) text)) e }

pub contains_end : (part text : List ℕ) (k : ℕ) → ContainsGo part text k → length text ≤ k → false ≡ contains part text
contains_end part text k go h = sym (go.same ∙ ap (contains part) (drop_all k text h))

-- control goes on behind the instructions so far
pub record FallsGo (t : Target) (is : List Instr) (k : ℕ) (falls : Bool) : Type 0 where
  pub same : falls ≡ falls_through t (take k is)

pub falls_begin : (t : Target) (is : List Instr) → FallsGo t is 0 true
falls_begin t is = record { same = refl }

falls_snoc : (t : Target) (is : List Instr) (x : Instr) → falls_through t (is ++ x ∷ []) ≡ not (does ends_control t x)
falls_snoc t [] x = refl
falls_snoc t (i ∷ []) x = refl
falls_snoc t (i ∷ j ∷ is) x = falls_snoc t (j ∷ is) x

pub falls_go : (t : Target) (is : List Instr) (k : ℕ) (falls : Bool) → FallsGo t is k falls → (x : Instr) (new : Bool) → k < length is → x ≡ get_or is k x → new ≡ not (does ends_control t x) → FallsGo t is (k + 1) new
falls_go t is k falls go x new h e n = record {
  same = n ∙ sym (falls_snoc t (take k is) x) ∙ ap (λ y. falls_through t (take k is ++ y ∷ [])) e ∙ sym (ap (falls_through t) (take_more is k x h));
}

pub falls_end : (t : Target) (is : List Instr) (k : ℕ) (falls : Bool) → FallsGo t is k falls → length is ≤ k → falls ≡ falls_through t is
falls_end t is k falls go h = go.same ∙ ap (falls_through t) (take_all k is h)
