-- The numbers that digits spell.
use Rattle.std.specs.Prelude.{ℕ, Bool, List, [], ◌∷◌, Option, Some, None, length, not, ◌&&◌, ◌==◌, ◌+◌, ◌*◌, ◌-◌, nat_le, if◌then◌else◌}
use Rattle.std.specs.List.{list_all}
use Rattle.target_base.specs.Names.{is_digit}
use Rattle.mir_lines.specs.declared.lexer.Sort.TheVariants as sorts
use Rattle.mir_lines.specs.declared.lexer.Sort.{Sort}
use Rattle.mir_lines.specs.Bytes.{is_of}

-- what a digit stands for, a hexadecimal one too
unfoldable pub digit_value : ℕ → ℕ
digit_value b = if is_digit b then b - 48 else (if nat_le 97 b then b - 87 else b - 55)

-- a number that goes on with these digits
abbrev pub value_from : ℕ → ℕ → List ℕ → ℕ
value_from base n [] = n
value_from base n (b ∷ bs) = value_from base (n * base + digit_value b) bs

abbrev pub is_filled : List ℕ → Bool
is_filled text = not (length text == 0)

-- the number that one or more digits spell, where it is at most the bound; zeros may stand first
unfoldable pub numeral : Sort → ℕ → ℕ → List ℕ → Option ℕ
numeral sort base most text =
    if (is_filled text && list_all (is_of sort) text) && nat_le (value_from base 0 text) most then Some (value_from base 0 text) else None

abbrev pub decimal_at_most : ℕ → List ℕ → Option ℕ
decimal_at_most most text = numeral sorts.Digit 10 most text

abbrev pub hex_at_most : ℕ → List ℕ → Option ℕ
hex_at_most most text = numeral sorts.Hex 16 most text

-- the number of a virtual register, a block or a frame object is at most 2^31 - 1
abbrev pub number_of : List ℕ → Option ℕ
number_of text = decimal_at_most 2147483647 text
