-- Words that are written with spaces between them, and lines with newlines behind them, are read back.
use Rattle.std.proofs.Common.{◌≡◌, ℕ, ◌+◌, List, [], ◌∷◌, ◌++◌, length, take, drop, Bool, true, false, refl, ap, sym, ◌∙◌, append_assoc, arith}
use Rattle.std.specs.Prelude.{◌==◌, ◌&&◌, not, filter}
use Rattle.std.proofs.Math.Seq.{take-append_seam, drop-append-add}
use Rattle.std.proofs.lemmas.List.{append-nil}
use Rattle.std.specs.List.{onto_first, before_first, after_first, position_or_len, list_all, flat_map}
use Rattle.target_base.proofs.Tests.{first_of_both, second_of_both}
use Rattle.target_desc.specs.Text.{parts, lines, words, is_filled}
use Rattle.target_desc.specs.MiniText.{ended_line}
use Rattle.target_desc.specs.Printed.{spaced}
use Rattle.target_desc.proofs.Grown.{both, all_join}

-- the text has no such byte
abbrev pub lacks : ℕ → List ℕ → Bool
lacks end bs = list_all (λ b. not (b == end)) bs

-- a word of a line: not empty, with no space and no newline
abbrev pub is_word : List ℕ → Bool
is_word w = is_filled w && lacks 32 w && lacks 10 w

not_so : (b : Bool) → not b ≡ true → b ≡ false
not_so true h = sym h
not_so false h = refl

-- a text up to the first of a byte, and behind it
module _ (end : ℕ) (w rest : List ℕ) (same : (end == end) ≡ true) where
  place_there : (bs : List ℕ) → lacks end bs ≡ true → position_or_len (λ b. b == end) (bs ++ end ∷ rest) ≡ length bs
  place_there [] h = rw same refl
  place_there (b ∷ bs) h =
      let apart = not_so (b == end) (first_of_both _ _ h) in
      let later : position_or_len (λ x. x == end) (bs ++ end ∷ rest) ≡ length bs = place_there bs (second_of_both _ _ h) in
      rw apart (omega (arith, later))

  pub cut_before : lacks end w ≡ true → before_first (λ b. b == end) (w ++ end ∷ rest) ≡ w
  cut_before h = ap (λ n. take n (w ++ end ∷ rest)) (place_there w h) ∙ take-append_seam w (end ∷ rest)

  pub cut_after : lacks end w ≡ true → after_first (λ b. b == end) (w ++ end ∷ rest) ≡ rest
  cut_after h = ap (λ n. drop (n + 1) (w ++ end ∷ rest)) (place_there w h) ∙ drop-append-add w (end ∷ rest) 1

part_ends : (end : ℕ) (bs rest : List ℕ) → lacks end bs ≡ true → (end == end) ≡ true → parts end (bs ++ end ∷ rest) ≡ bs ∷ parts end rest
unfolding parts
part_ends end [] rest h e = rw e refl
part_ends end (b ∷ bs) rest h e =
    let apart = not_so (b == end) (first_of_both _ _ h) in
    rw apart (ap (onto_first b) (part_ends end bs rest (second_of_both _ _ h) e))

last_part : (end b : ℕ) (bs : List ℕ) → lacks end (b ∷ bs) ≡ true → parts end (b ∷ bs) ≡ (b ∷ bs) ∷ []
unfolding parts
last_part end b [] h = let apart = not_so (b == end) (first_of_both _ _ h) in rw apart refl
last_part end b (c ∷ cs) h = let apart = not_so (b == end) (first_of_both _ _ h) in rw apart (ap (onto_first b) (last_part end c cs (second_of_both _ _ h)))

whole_part : (end : ℕ) (bs : List ℕ) → is_filled bs ≡ true → lacks end bs ≡ true → parts end bs ≡ bs ∷ []
whole_part end [] f h = absurd (cc)
whole_part end (b ∷ bs) f h = last_part end b bs h

-- each line with its newline
pub lines_back : (ls : List (List ℕ)) → list_all (lacks 10) ls ≡ true → lines (flat_map ended_line ls) ≡ ls
unfolding parts
lines_back [] h = refl
lines_back (l ∷ ls) h =
    ap (parts 10) (append_assoc l (10 ∷ []) (flat_map ended_line ls)) ∙ part_ends 10 l (flat_map ended_line ls) (first_of_both _ _ h) refl ∙ ap (λ xs. l ∷ xs) (lines_back ls (second_of_both _ _ h))

word_is_filled : (w : List ℕ) → is_word w ≡ true → is_filled w ≡ true
word_is_filled w h = first_of_both _ _ (first_of_both _ _ h)

word_lacks_space : (w : List ℕ) → is_word w ≡ true → lacks 32 w ≡ true
word_lacks_space w h = second_of_both _ _ (first_of_both _ _ h)

word_lacks_newline : (w : List ℕ) → is_word w ≡ true → lacks 10 w ≡ true
word_lacks_newline w h = second_of_both _ _ h

spaced_parts : (w : List ℕ) (ws : List (List ℕ)) → is_word w ≡ true → list_all is_word ws ≡ true → parts 32 (w ++ flat_map (λ v. 32 ∷ v) ws) ≡ w ∷ ws
spaced_parts w [] h g = ap (parts 32) (append-nil w) ∙ whole_part 32 w (word_is_filled w h) (word_lacks_space w h)
spaced_parts w (v ∷ vs) h g =
    part_ends 32 w (v ++ flat_map (λ x. 32 ∷ x) vs) (word_lacks_space w h) refl ∙ ap (λ xs. w ∷ xs) (spaced_parts v vs (first_of_both _ _ g) (second_of_both _ _ g))

filled_stay : (ws : List (List ℕ)) → list_all is_word ws ≡ true → filter is_filled ws ≡ ws
filled_stay [] h = refl
filled_stay (w ∷ ws) h = let f = word_is_filled w (first_of_both _ _ h) in rw f (ap (λ xs. w ∷ xs) (filled_stay ws (second_of_both _ _ h)))

-- the words of a line
pub words_back : (w : List ℕ) (ws : List (List ℕ)) → is_word w ≡ true → list_all is_word ws ≡ true → words (spaced (w ∷ ws)) ≡ w ∷ ws
words_back w ws h g = ap (filter is_filled) (spaced_parts w ws h g) ∙ filled_stay (w ∷ ws) (both _ _ h g)

tail_lacks : (ws : List (List ℕ)) → list_all is_word ws ≡ true → lacks 10 (flat_map (λ v. 32 ∷ v) ws) ≡ true
tail_lacks [] h = refl
tail_lacks (w ∷ ws) h = all_join (λ b. not (b == 10)) w (flat_map (λ v. 32 ∷ v) ws) (word_lacks_newline w (first_of_both _ _ h)) (tail_lacks ws (second_of_both _ _ h))

-- a line of words has no newline
pub line_lacks : (w : List ℕ) (ws : List (List ℕ)) → is_word w ≡ true → list_all is_word ws ≡ true → lacks 10 (spaced (w ∷ ws)) ≡ true
line_lacks w ws h g = all_join (λ b. not (b == 10)) w (flat_map (λ v. 32 ∷ v) ws) (word_lacks_newline w h) (tail_lacks ws g)

joined_filled : (v w : List ℕ) → is_filled v ≡ true → is_filled (v ++ w) ≡ true
joined_filled [] w h = absurd (cc)
joined_filled (b ∷ bs) w h = refl

-- two words without a space between them are a word
pub joined_word : (v w : List ℕ) → is_word v ≡ true → is_word w ≡ true → is_word (v ++ w) ≡ true
joined_word v w h g =
    both _ _
    (both _ _ (joined_filled v w (word_is_filled v h)) (all_join (λ b. not (b == 32)) v w (word_lacks_space v h) (word_lacks_space w g)))
    (all_join (λ b. not (b == 10)) v w (word_lacks_newline v h) (word_lacks_newline w g))
