-- Symbols at the front of a text, in their one spelling, with the offsets and flags that a target opts in.
use Rattle.std.specs.Prelude.{ℕ, Bool, false, List, [], ◌∷◌, ◌++◌, Option, Some, None, codes, length, ◌&&◌, ◌||◌, ◌==◌, ◌+◌, is_some, position, take, drop, if◌then◌else◌}
use Rattle.target_base.specs.Names.{is_digit, is_flag_word}
use Rattle.target_base.specs.declared.types.TextOptions.{TextOptions}
use Rattle.mir_lines.specs.declared.raw.RawOperand.{RawOperand}
use Rattle.mir_lines.specs.declared.raw.RawOperand.TheVariants as operands
use Rattle.mir_lines.specs.Bytes.{is_label_byte, run, behind, skip, skip_back, is_word, behind_word, is_ascii}
use Rattle.mir_lines.specs.Parts.{each, comma_parts, joined}
use Rattle.mir_lines.specs.Reads.{◌>>=◌}
use Rattle.mir_lines.specs.Numbers.{is_filled, decimal_at_most}
use Rattle.mir_lines.specs.Registers.{continues, ending, without_zeros}

-- the byte begins the name of a symbol
abbrev pub is_mark : ℕ → Bool
is_mark b = b == 64 || b == 38

-- `@name` and `&name`: the mark, then letters, digits and `_ . - $`
unfoldable pub bare_symbol_at : List ℕ → Option (List ℕ × List ℕ)
bare_symbol_at [] = None
bare_symbol_at (mark ∷ text) =
    if is_mark mark && is_filled (run is_label_byte text) then ending (mark ∷ run is_label_byte text) (behind is_label_byte text) else None

-- a text with a quote at this place
abbrev pub quoted_in : List ℕ → Option ℕ → Option (List ℕ × List ℕ)
quoted_in text None = None
quoted_in text (Some k) = if is_ascii (take k text) then Some (codes "@\"" ++ (take k text ++ codes "\""), drop (k + 1) text) else None

-- behind `@"`: ASCII through the next quote
unfoldable pub quoted_symbol_at : List ℕ → Option (List ℕ × List ℕ)
quoted_symbol_at text = quoted_in text (position (λ b. b == 34) text)

abbrev pub named_in : List ℕ → Option (List ℕ) → Option (List ℕ × List ℕ)
named_in text None = bare_symbol_at text
named_in text (Some inside) = quoted_symbol_at inside

-- the name of a symbol, kept as written
unfoldable pub named_symbol_at : List ℕ → Option (List ℕ × List ℕ)
named_symbol_at text = named_in text (behind_word (codes "@\"") text)

-- the digits of a number that is at most this, without zeros before it
unfoldable pub digits_at : ℕ → List ℕ → Option (List ℕ × List ℕ)
digits_at most text =
    if is_some (decimal_at_most most (run is_digit text)) && is_word (without_zeros (run is_digit text)) (run is_digit text)
    then ending (run is_digit text) (behind is_digit text) else None

-- what stands behind the mark of an entry of the constant pool, where the target's text has them
abbrev pub behind_pool_mark : TextOptions → List ℕ → Option (List ℕ)
behind_pool_mark o text = if o.pool then behind_word (codes "%const.") text else None

-- the entry of the constant pool of the number that stands first
abbrev pub pool_entry_at : List ℕ → Option (List ℕ × List ℕ)
pool_entry_at text = digits_at 2147483647 text >>= λ d. Some (codes "%const." ++ d.0, d.1)

abbrev pub base_in : List ℕ → Option (List ℕ) → Option (List ℕ × List ℕ)
base_in text None = named_symbol_at text
base_in text (Some number) = pool_entry_at number

-- a symbol without an offset or an entry of the constant pool
abbrev pub base_at : TextOptions → List ℕ → Option (List ℕ × List ℕ)
base_at o text = base_in text (behind_pool_mark o text)

-- one of them begins here
unfoldable pub begins_symbol : TextOptions → List ℕ → Bool
begins_symbol o [] = false
begins_symbol o (b ∷ bs) = is_mark b || is_some (behind_pool_mark o (b ∷ bs))

-- the byte is the sign of an offset
abbrev pub is_sign : ℕ → Bool
is_sign b = b == 43 || b == 45

-- the symbol with an offset of this sign and the number that stands first
abbrev pub offset_behind : List ℕ → ℕ → List ℕ → Option (List ℕ × List ℕ)
offset_behind name sign text =
    digits_at 9223372036854775808 (skip text) >>= λ d. Some (((((name ++ codes " ") ++ sign ∷ []) ++ codes " ") ++ d.0), d.1)

abbrev pub signed_in : List ℕ → List ℕ → List ℕ → Option (List ℕ × List ℕ)
signed_in name text [] = Some (name, text)
signed_in name text (b ∷ bs) = if is_sign b then offset_behind name b bs else Some (name, text)

-- the symbol with the offset that stands first, if a sign stands there and the target's text has offsets
unfoldable pub with_offset : TextOptions → List ℕ → List ℕ → Option (List ℕ × List ℕ)
with_offset o name text = if o.offsets then signed_in name text (skip text) else Some (name, text)

-- a symbol or an entry of the constant pool, with its offset
unfoldable pub symbol_at : TextOptions → List ℕ → Option (List ℕ × List ℕ)
symbol_at o text = base_at o text >>= λ s. with_offset o s.0 s.1

abbrev pub ended : Option (List ℕ) → Option (List ℕ)
ended None = None
ended (Some rest) = if continues rest then None else Some rest

-- what stands behind `$noreg`, where the target's text has it
unfoldable pub behind_noreg : TextOptions → List ℕ → Option (List ℕ)
behind_noreg o text = if o.noreg then ended (behind_word (codes "$noreg") text) else None

abbrev pub no_register : RawOperand
no_register = operands.Symbol (codes "$noreg") []

-- a word of `target-flags` with spaces around it
abbrev pub flag_of : List ℕ → Option (List ℕ)
flag_of text = if is_flag_word (skip_back (skip text)) then Some (skip_back (skip text)) else None

abbrev pub flags_in : List ℕ → Option ℕ → Option (List (List ℕ) × List ℕ)
flags_in text None = None
flags_in text (Some k) = each flag_of (comma_parts (take k text)) >>= λ words. Some (words, drop (k + 1) text)

-- one or more words of `target-flags` in parentheses, with commas between them
unfoldable pub flags_at : List ℕ → Option (List (List ℕ) × List ℕ)
flags_at text = behind_word (codes "(") text >>= λ inside. flags_in inside (position (λ b. b == 41) inside)

-- the name of a symbol with these flags
abbrev pub flagged_name : List (List ℕ) → List ℕ → List ℕ
flagged_name flags name = ((codes "target-flags(" ++ joined (codes ", ") flags) ++ codes ") ") ++ name

-- a symbol with flags, behind `target-flags`; a target without flags takes none
unfoldable pub flagged_symbol_at : TextOptions → List ℕ → Option (RawOperand × List ℕ)
flagged_symbol_at o text =
    if length o.flags == 0 then None
    else (flags_at text >>= λ f. symbol_at o (skip f.1) >>= λ s. Some (operands.Symbol (flagged_name f.0 s.0) f.0, s.1))
