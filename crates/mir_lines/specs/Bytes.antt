-- Sorts of bytes, runs of bytes, and numbers.
use Rattle.std.specs.Prelude.{ℕ, Bool, List, Option, Some, None, length, drop, take, not, ◌&&◌, ◌||◌, ◌==◌, ◌-◌, nat_le, nat_eq, if◌then◌else◌}
use Rattle.std.specs.List.{before_first, position_or_len, suffix_len, list_all}
use Rattle.std.specs.Cmp.Lexicographic.{pointwise}
use Rattle.target_base.specs.Names.{is_digit, is_name_byte}
use Rattle.target_base.specs.Names.{is_flag_byte as is_target_flag_byte}
use Rattle.mir_lines.specs.declared.lexer.Sort.{Sort}
use Rattle.mir_lines.specs.declared.lexer.Sort.TheVariants as sorts

abbrev pub is_hex : ℕ → Bool
is_hex b = is_digit b || (nat_le 97 b && nat_le b 102) || (nat_le 65 b && nat_le b 70)

-- lower-case letters and dashes, as in a flag
abbrev pub is_flag_byte : ℕ → Bool
is_flag_byte b = (nat_le 97 b && nat_le b 122) || b == 45

-- letters, digits, underscores and dashes, as in the name of a virtual register
abbrev pub is_word_byte : ℕ → Bool
is_word_byte b = is_name_byte b || b == 45

-- letters, digits and `_ - . $`, as in the name of a block
abbrev pub is_label_byte : ℕ → Bool
is_label_byte b = is_word_byte b || b == 46 || b == 36

abbrev pub is_of : Sort → ℕ → Bool
is_of sorts.Digit b = is_digit b
is_of sorts.Hex b = is_hex b
is_of sorts.Flag b = is_flag_byte b
is_of sorts.Name b = is_name_byte b
is_of sorts.Word b = is_word_byte b
is_of sorts.Label b = is_label_byte b
is_of sorts.TargetFlag b = is_target_flag_byte b

-- the bytes of a sort that stand first
abbrev pub run : (ℕ → Bool) → List ℕ → List ℕ
run p text = before_first (λ b. not (p b)) text

-- what stands behind them
abbrev pub behind : (ℕ → Bool) → List ℕ → List ℕ
behind p text = drop (position_or_len (λ b. not (p b)) text) text

-- without the spaces at the front
unfoldable pub skip : List ℕ → List ℕ
skip text = behind (λ b. b == 32) text

-- without the spaces at the end
unfoldable pub skip_back : List ℕ → List ℕ
skip_back text = take (length text - suffix_len (λ b. b == 32) text) text

abbrev pub is_word : List ℕ → List ℕ → Bool
is_word text word = pointwise nat_eq text word

-- what stands behind this word, where it stands first
unfoldable pub behind_word : List ℕ → List ℕ → Option (List ℕ)
behind_word word text = if is_word (take (length word) text) word then Some (drop (length word) text) else None

-- what stands before this word, where it stands last
unfoldable pub before_word : List ℕ → List ℕ → Option (List ℕ)
before_word word text =
    if is_word (drop (length text - length word) text) word then Some (take (length text - length word) text) else None

-- no byte but spaces stands there
abbrev pub is_blank : List ℕ → Bool
is_blank text = list_all (λ b. b == 32) text

abbrev pub is_ascii : List ℕ → Bool
is_ascii text = list_all (λ b. nat_le b 127) text
