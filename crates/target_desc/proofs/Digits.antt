-- Names, words of `target-flags` and the decimal words of small numbers are words of a line, and the numbers are read back.
use Rattle.std.proofs.Common.{◌≡◌, ℕ, ◌<◌, List, [], ◌∷◌, length, Bool, true, false, refl, ap, sym, ◌∙◌, arith, map}
use Rattle.std.specs.Prelude.{◌==◌, ◌&&◌, not, nat_lt}
use Rattle.std.specs.List.{list_all, range_with_len}
use Rattle.std.specs.Fmt.{decimal, digits}
use Rattle.std.proofs.lemmas.Bool.{eqb-true, ltb-true}
use Rattle.std.proofs.lemmas.List.FromFn.{get_or-range_with_len, length-range_with_len}
use Rattle.target_base.specs.Names.{is_name, is_name_byte, is_letter, is_lower, is_digit, is_flag_byte, is_flag_word}
use Rattle.target_base.proofs.Tests.{first_of_both, second_of_both, each_passes}
use Rattle.target_desc.specs.Text.{is_filled, is_number, number}
use Rattle.target_desc.proofs.Grown.{both, all_kept}
use Rattle.target_desc.proofs.Spaced.{is_word, lacks}

-- a byte that keeps a rule isn't one that doesn't
plain_byte : (rule : ℕ → Bool) (end : ℕ) → rule end ≡ false → (b : ℕ) → rule b ≡ true → not (b == end) ≡ true
plain_byte rule end other b h = by (b == end) refl
  where
    by : (t : Bool) → (b == end) ≡ t → not (b == end) ≡ true
    by true e = absurd (let same : rule b ≡ rule end = ap rule (eqb-true b end e) in cc)
    by false e = ap not e

-- bytes of a rule that neither a space nor a newline keeps
plain_word : (rule : ℕ → Bool) → rule 32 ≡ false → rule 10 ≡ false → (w : List ℕ) → is_filled w ≡ true → list_all rule w ≡ true → is_word w ≡ true
plain_word rule space newline w f h = both _ _ (both _ _ f (all_kept rule (λ c. not (c == 32)) w (plain_byte rule 32 space) h)) (all_kept rule (λ c. not (c == 10)) w (plain_byte rule 10 newline) h)

first_is_name_byte : (b : ℕ) → is_letter b ≡ true → is_name_byte b ≡ true
first_is_name_byte b h = rw h refl

first_is_flag_byte : (b : ℕ) → is_lower b ≡ true → is_flag_byte b ≡ true
first_is_flag_byte b h = rw h refl

-- a name is a word
pub name_is_word : (w : List ℕ) → is_name w ≡ true → is_word w ≡ true
name_is_word [] h = absurd (cc)
name_is_word (b ∷ bs) h = plain_word is_name_byte refl refl (b ∷ bs) refl (both _ _ (first_is_name_byte b (first_of_both _ _ h)) (second_of_both _ _ h))

-- a word of `target-flags` is a word
flag_is_word : (w : List ℕ) → is_flag_word w ≡ true → is_word w ≡ true
flag_is_word [] h = absurd (cc)
flag_is_word (b ∷ bs) h = plain_word is_flag_byte refl refl (b ∷ bs) refl (both _ _ (first_is_flag_byte b (first_of_both _ _ h)) (second_of_both _ _ h))

pub flags_are_words : (ws : List (List ℕ)) → list_all is_flag_word ws ≡ true → list_all is_word ws ≡ true
flags_are_words ws h = all_kept is_flag_word is_word ws flag_is_word h

pub names_are_words : (ws : List (List ℕ)) → list_all is_name ws ≡ true → list_all is_word ws ≡ true
names_are_words ws h = all_kept is_name is_word ws name_is_word h

-- the decimal word of a number is read back as it
abbrev is_read_back : ℕ → Bool
is_read_back n = is_word (decimal n) && is_number (decimal n) && number (decimal n) == n

small_numbers : list_all is_read_back (range_with_len 0 255) ≡ true
unfolding digits
small_numbers = refl

small : (n : ℕ) → n < 255 → is_read_back n ≡ true
small n h =
    let there : n < length (range_with_len 0 255) = omega (arith, length-range_with_len 0 255) in
    ap is_read_back (sym (get_or-range_with_len 0 255 n 0 h ∙ omega arith)) ∙ each_passes is_read_back (range_with_len 0 255) n 0 there small_numbers

pub decimal_is_word : (n : ℕ) → n < 255 → is_word (decimal n) ≡ true
decimal_is_word n h = first_of_both _ _ (first_of_both _ _ (small n h))

pub decimal_is_number : (n : ℕ) → n < 255 → is_number (decimal n) ≡ true
decimal_is_number n h = second_of_both _ _ (first_of_both _ _ (small n h))

pub decimal_back : (n : ℕ) → n < 255 → number (decimal n) ≡ n
decimal_back n h = eqb-true _ _ (second_of_both _ _ (small n h))

pub decimals_are_words : (ns : List ℕ) → list_all (λ n. nat_lt n 255) ns ≡ true → list_all is_word (map decimal ns) ≡ true
decimals_are_words [] h = refl
decimals_are_words (n ∷ ns) h = both _ _ (decimal_is_word n (ltb-true n 255 (first_of_both _ _ h))) (decimals_are_words ns (second_of_both _ _ h))

pub decimals_are_numbers : (ns : List ℕ) → list_all (λ n. nat_lt n 255) ns ≡ true → list_all is_number (map decimal ns) ≡ true
decimals_are_numbers [] h = refl
decimals_are_numbers (n ∷ ns) h = both _ _ (decimal_is_number n (ltb-true n 255 (first_of_both _ _ h))) (decimals_are_numbers ns (second_of_both _ _ h))

pub decimals_back : (ns : List ℕ) → list_all (λ n. nat_lt n 255) ns ≡ true → map number (map decimal ns) ≡ ns
decimals_back [] h = refl
decimals_back (n ∷ ns) h = λ i. decimal_back n (ltb-true n 255 (first_of_both _ _ h)) i ∷ decimals_back ns (second_of_both _ _ h) i

-- what isn't a digit doesn't stand in a decimal word
pub decimal_lacks : (end n : ℕ) → is_digit end ≡ false → n < 255 → lacks end (decimal n) ≡ true
decimal_lacks end n other h = all_kept is_digit (λ b. not (b == end)) (decimal n) (plain_byte is_digit end other) (second_of_both _ _ (decimal_is_number n h))
