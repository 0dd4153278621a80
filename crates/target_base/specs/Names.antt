-- How names are spelled, and that they are distinct.
use Rattle.std.specs.Prelude.{ℕ, Bool, true, false, List, [], ◌∷◌, not, ◌&&◌, ◌||◌, ◌==◌, nat_le}
use Rattle.std.specs.List.{list_all, list_any}
use Rattle.target_base.specs.Storage.{same_numbers}

abbrev pub is_upper : ℕ → Bool
is_upper b = nat_le 65 b && nat_le b 90

abbrev pub is_lower : ℕ → Bool
is_lower b = nat_le 97 b && nat_le b 122

abbrev pub is_letter : ℕ → Bool
is_letter b = is_upper b || is_lower b

abbrev pub is_digit : ℕ → Bool
is_digit b = nat_le 48 b && nat_le b 57

abbrev pub is_name_byte : ℕ → Bool
is_name_byte b = is_letter b || is_digit b || b == 95

-- a letter, then letters, digits and underscores
abbrev pub is_name : List ℕ → Bool
is_name [] = false
is_name (b ∷ bs) = is_letter b && list_all is_name_byte bs

-- an opcode's name has an upper-case letter
abbrev pub is_op_name : List ℕ → Bool
is_op_name bs = is_name bs && list_any is_upper bs

abbrev pub is_flag_byte : ℕ → Bool
is_flag_byte b = is_lower b || is_digit b || b == 95 || b == 45

-- a word of `target-flags`: a lower-case letter, then lower-case letters, digits, `_` and `-`
abbrev pub is_flag_word : List ℕ → Bool
is_flag_word [] = false
is_flag_word (b ∷ bs) = is_lower b && list_all is_flag_byte bs

-- no two elements are equal by the test
abbrev pub is_distinct : {X : Type 0} → (X → X → Bool) → List X → Bool
is_distinct same [] = true
is_distinct same (x ∷ xs) = not (list_any (same x) xs) && is_distinct same xs

abbrev pub are_distinct_names : List (List ℕ) → Bool
are_distinct_names names = is_distinct same_numbers names

abbrev pub are_distinct_numbers : List ℕ → Bool
are_distinct_numbers ns = is_distinct (λ m n. m == n) ns
