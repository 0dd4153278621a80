-- Distinct names that are put at the end one after another.
use Rattle.std.proofs.Common.{◌≡◌, ℕ, ◌<◌, ◌≤◌, ◌+◌, List, [], ◌∷◌, ◌++◌, length, map, drop, get_or, Bool, true, false, not, refl, ap, sym, ◌∙◌, arith, append_assoc, append-nil, length-append}
use Rattle.std.specs.Prelude.{◌&&◌, ◌||◌, ◌==◌, IsTrue, if◌then◌else◌}
use Rattle.std.specs.List.{list_any}
use Rattle.std.proofs.lemmas.List.{drop_more, drop_all}
use Rattle.std.proofs.lemmas.Grind.{common_steps}
use Rattle.target_base.specs.Names.{is_distinct, are_distinct_names}
use Rattle.target_base.specs.Storage.{same_numbers}
use Rattle.word_set.specs.Words.{with_name}

-- put one after another
abbrev pub with_names : List (List ℕ) → List (List ℕ) → List (List ℕ)
with_names names [] = names
with_names names (w ∷ ws) = with_names (with_name names w) ws

eq_sym : (a b : ℕ) → (a == b) ≡ (b == a)
eq_sym a b = grind (arith, common_steps)

same_sym : (a b : List ℕ) → same_numbers a b ≡ same_numbers b a
same_sym [] [] = refl
same_sym [] (y ∷ ys) = refl
same_sym (x ∷ xs) [] = refl
same_sym (x ∷ xs) (y ∷ ys) = rw (eq_sym x y, same_sym xs ys) refl

or_none : (a : Bool) → (a || false) ≡ a
or_none true = refl
or_none false = refl

or_more : (a b c : Bool) → (a || (b || c)) ≡ ((a || b) || c)
or_more true b c = refl
or_more false b c = refl

or_left : (a b : Bool) → (a || b) ≡ false → a ≡ false
or_left true b e = e
or_left false b e = refl

or_right : (a b : Bool) → (a || b) ≡ false → b ≡ false
or_right true b e = absurd (cc)
or_right false b e = e

or_both : (a b : Bool) → a ≡ false → b ≡ false → (a || b) ≡ false
or_both a b e f = rw (e, f) refl

and_left : (a b : Bool) → (a && b) ≡ true → a ≡ true
and_left true b e = refl
and_left false b e = e

and_right : (a b : Bool) → (a && b) ≡ true → b ≡ true
and_right true b e = e
and_right false b e = absurd (cc)

not_true : (a : Bool) → not a ≡ true → a ≡ false
not_true true e = absurd (cc)
not_true false e = refl

any_append : (p : List ℕ → Bool) (a : List (List ℕ)) (w : List ℕ) → list_any p (a ++ w ∷ []) ≡ (list_any p a || p w)
any_append p [] w = or_none (p w)
any_append p (x ∷ xs) w = rw (any_append p xs w) (or_more (p x) (list_any p xs) (p w))

-- none of the second list is in the first
abbrev are_new : List (List ℕ) → List (List ℕ) → Type 0
are_new names [] = Unit {0}
are_new names (w ∷ ws) = (list_any (same_numbers w) names ≡ false) × are_new names ws

new_more : (names ws : List (List ℕ)) (w : List ℕ) → are_new names ws → list_any (same_numbers w) ws ≡ false → are_new (names ++ w ∷ []) ws
new_more names [] w new h = tt
new_more names (v ∷ vs) w new h = (
  any_append (same_numbers v) names w ∙ or_both (list_any (same_numbers v) names) (same_numbers v w) new.0 (same_sym v w ∙ or_left (same_numbers w v) (list_any (same_numbers w) vs) h),
  new_more names vs w new.1 (or_right (same_numbers w v) (list_any (same_numbers w) vs) h),
)

put_new : (names : List (List ℕ)) (w : List ℕ) → list_any (same_numbers w) names ≡ false → with_name names w ≡ names ++ w ∷ []
put_new names w h = rw h refl

puts_all : (names ws : List (List ℕ)) → are_new names ws → is_distinct same_numbers ws ≡ true → with_names names ws ≡ names ++ ws
puts_all names [] new h = sym (append-nil names)
puts_all names (w ∷ ws) new h =
    let fresh = not_true (list_any (same_numbers w) ws) (and_left (not (list_any (same_numbers w) ws)) (is_distinct same_numbers ws) h) in
    let rest = puts_all (names ++ w ∷ []) ws (new_more names ws w new.1 fresh) (and_right (not (list_any (same_numbers w) ws)) (is_distinct same_numbers ws) h) in
    ap (λ (ns : List (List ℕ)). with_names ns ws) (put_new names w new.0) ∙ rest ∙ append_assoc names (w ∷ []) ws

all_new : (ws : List (List ℕ)) → are_new [] ws
all_new [] = tt
all_new (w ∷ ws) = (refl, all_new ws)

pub distinct_put : (ws : List (List ℕ)) → IsTrue (are_distinct_names ws) → with_names [] ws ≡ ws
distinct_put ws h = puts_all [] ws (all_new ws) h

longer : (names : List (List ℕ)) (w : List ℕ) (known : Bool) → length (if not known then names ++ w ∷ [] else names) ≤ length names + 1
longer names w true = omega arith
longer names w false = omega (arith, length-append names (w ∷ []))

-- the names of the elements so far, where the rest are put behind them
pub record NamesGo {X : Type 0} (f : X → List ℕ) (xs : List X) (k : ℕ) (names : List (List ℕ)) : Type 0 where
  pub same : with_names names (map f (drop k xs)) ≡ map f xs
  pub few : length names ≤ k

pub names_begin : {X : Type 0} (f : X → List ℕ) (xs : List X) → IsTrue (are_distinct_names (map f xs)) → NamesGo f xs 0 []
names_begin f xs h = record { same = distinct_put (map f xs) h; few = omega arith }

pub names_go : {X : Type 0} (f : X → List ℕ) (xs : List X) (k : ℕ) (names : List (List ℕ)) → NamesGo f xs k names → (x : X) (new : List (List ℕ)) → k < length xs → x ≡ get_or xs k x → new ≡ with_name names (f x) → NamesGo f xs (k + 1) new
names_go f xs k names go x new h e put = record {
  same =
      ap (λ (ns : List (List ℕ)). with_names ns (map f (drop (k + 1) xs))) (put ∙ ap (λ y. with_name names (f y)) e)
      ∙ sym (ap (λ ys. with_names names (map f ys)) (drop_more xs k x h))
      ∙ go.same;
  few = rw put (let n = longer names (f x) (list_any (same_numbers (f x)) names) in omega (arith, n, go.few));
}

pub names_end : {X : Type 0} (f : X → List ℕ) (xs : List X) (k : ℕ) (names : List (List ℕ)) → NamesGo f xs k names → length xs ≤ k → names ≡ map f xs
names_end f xs k names go h = sym (ap (λ ys. with_names names (map f ys)) (drop_all k xs h)) ∙ go.same

-- the words so far, where the rest are put behind them
pub record WordsGo (ws : List (List ℕ)) (k : ℕ) (words : List (List ℕ)) : Type 0 where
  pub same : with_names words (drop k ws) ≡ ws

pub words_begin : (ws : List (List ℕ)) → IsTrue (are_distinct_names ws) → WordsGo ws 0 []
words_begin ws h = record { same = distinct_put ws h }

pub words_go : (ws : List (List ℕ)) (k : ℕ) (words : List (List ℕ)) → WordsGo ws k words → (w : List ℕ) (new : List (List ℕ)) → k < length ws → w ≡ get_or ws k w → new ≡ with_name words w → WordsGo ws (k + 1) new
words_go ws k words go w new h e put = record {
  same =
      ap (λ (vs : List (List ℕ)). with_names vs (drop (k + 1) ws)) (put ∙ ap (λ v. with_name words v) e)
      ∙ sym (ap (λ vs. with_names words vs) (drop_more ws k w h))
      ∙ go.same;
}

pub words_end : (ws : List (List ℕ)) (k : ℕ) (words : List (List ℕ)) → WordsGo ws k words → length ws ≤ k → words ≡ ws
words_end ws k words go h = sym (ap (λ vs. with_names words vs) (drop_all k ws h)) ∙ go.same
