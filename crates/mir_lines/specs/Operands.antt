-- Operands at the front of a text.
use Rattle.std.specs.Prelude.{ℕ, pos, neg_ℤ, Bool, false, List, [], ◌∷◌, Option, Some, None, codes, ◌||◌, ◌==◌, option_map, if◌then◌else◌}
use Rattle.std.specs.Borrow.{Bor}
use Rattle.target_base.specs.Names.{is_digit, is_name}
use Rattle.mir_lines.specs.declared.raw.RawOperand.{RawOperand}
use Rattle.mir_lines.specs.declared.raw.RawOperand.TheVariants as operands
use Rattle.target_base.specs.declared.types.TextOptions.{TextOptions}
use Rattle.mir_lines.specs.Bytes.{is_word_byte, is_label_byte, run, behind, is_word, behind_word}
use Rattle.mir_lines.specs.Reads.{◌>>=◌}
use Rattle.mir_lines.specs.Numbers.{is_filled, decimal_at_most, number_of}
use Rattle.mir_lines.specs.Registers.{continues, ending, is_tail_word, words_at, name_at, begins_with_digit, register_at}
use Rattle.mir_lines.specs.Symbols.{begins_symbol, symbol_at, behind_noreg, no_register, flagged_symbol_at}

-- a name behind a number's dot
abbrev pub label_behind : ℕ → List ℕ → Option (List ℕ) → Option ((ℕ × Option (List ℕ)) × List ℕ)
label_behind n rest None = ending (n, None) rest
label_behind n rest (Some text) =
    if is_filled (run is_label_byte text) then ending (n, Some (run is_label_byte text)) (behind is_label_byte text) else None

-- a number, and a name behind a dot where one is written
unfoldable pub numbered_at : List ℕ → Option ((ℕ × Option (List ℕ)) × List ℕ)
numbered_at text = number_of (run is_digit text) >>= λ n. label_behind n (behind is_digit text) (behind_word (codes ".") (behind is_digit text))

abbrev pub labelled : ℕ × Option (Bor (List ℕ)) × Bor (List ℕ) → (ℕ × Option (List ℕ)) × List ℕ
labelled p = ((p.0, option_map (λ label. label.now) p.1), p.2.now)

-- behind `%bb.`
unfoldable pub block_at : List ℕ → Option (RawOperand × List ℕ)
block_at text = numbered_at text >>= λ p. Some (operands.Block p.0.0 p.0.1, p.1)

-- behind `%stack.`
unfoldable pub stack_at : List ℕ → Option (RawOperand × List ℕ)
stack_at text = numbered_at text >>= λ p. Some (operands.Stack p.0.0, p.1)

-- behind `%fixed-stack.`
unfoldable pub fixed_stack_at : List ℕ → Option (RawOperand × List ℕ)
fixed_stack_at text = numbered_at text >>= λ p. Some (operands.FixedStack p.0.0, p.1)

-- behind `%subreg.`
unfoldable pub subreg_at : List ℕ → Option (RawOperand × List ℕ)
subreg_at text = name_at text >>= λ p. ending (operands.Index p.0) p.1

-- what the text behind a word spells, where the word stands first; else another thing
abbrev pub behind_or : (List ℕ → Option (RawOperand × List ℕ)) → Option (List ℕ) → Option (Option (RawOperand × List ℕ)) → Option (Option (RawOperand × List ℕ))
behind_or read None other = other
behind_or read (Some rest) other = option_map Some (read rest)

abbrev pub noreg_before : List ℕ → Option (RawOperand × List ℕ)
noreg_before rest = Some (no_register, rest)

-- a block, a frame object, a subregister index or `$noreg`; Some None where the text begins none of them
unfoldable pub object_at : TextOptions → List ℕ → Option (Option (RawOperand × List ℕ))
object_at o text =
    behind_or block_at (behind_word (codes "%bb.") text)
    (behind_or stack_at (behind_word (codes "%stack.") text)
    (behind_or fixed_stack_at (behind_word (codes "%fixed-stack.") text)
    (behind_or subreg_at (behind_word (codes "%subreg.") text)
    (behind_or noreg_before (behind_noreg o text) (Some None)))))

unfoldable pub positive_at : List ℕ → Option (RawOperand × List ℕ)
positive_at text = decimal_at_most 18446744073709551615 (run is_digit text) >>= λ n. ending (operands.Imm (pos n)) (behind is_digit text)

-- behind the minus sign
unfoldable pub negative_at : List ℕ → Option (RawOperand × List ℕ)
negative_at text = decimal_at_most 9223372036854775808 (run is_digit text) >>= λ n. ending (operands.Imm (neg_ℤ (pos n))) (behind is_digit text)

abbrev pub signed_in : List ℕ → Option (List ℕ) → Option (RawOperand × List ℕ)
signed_in text None = positive_at text
signed_in text (Some digits) = negative_at digits

-- an immediate: from -2^63 to 2^64 - 1
unfoldable pub immediate_at : List ℕ → Option (RawOperand × List ℕ)
immediate_at text = signed_in text (behind_word (codes "-") text)

abbrev pub is_begun : Option (List ℕ) → Bool
is_begun None = false
is_begun (Some rest) = begins_with_digit rest

unfoldable pub begins_immediate : List ℕ → Bool
begins_immediate text = begins_with_digit text || is_begun (behind_word (codes "-") text)

abbrev pub mask_of : List ℕ → Option RawOperand
mask_of word = if is_name word then Some (operands.Mask word) else None

-- the name of a call mask
unfoldable pub mask_at : List ℕ → Option (RawOperand × List ℕ)
mask_at text =
    if is_tail_word text || continues (behind is_word_byte text) then None
    else (mask_of (run is_word_byte text) >>= λ o. Some (o, behind is_word_byte text))

-- an operand that no lower-case word begins and that is no register and no symbol
unfoldable pub plain_at : List ℕ → Option (RawOperand × List ℕ)
plain_at text = if begins_immediate text then immediate_at text else mask_at text

-- a dollar or a percent sign stands first
unfoldable pub begins_register : List ℕ → Bool
begins_register [] = false
begins_register (b ∷ bs) = b == 36 || b == 37

abbrev pub as_register : List (List ℕ) → List ℕ → Option (RawOperand × List ℕ)
as_register words text = register_at false words text >>= λ p. Some (operands.Reg p.0, p.1)

abbrev pub object_or_register : List ℕ → Option (RawOperand × List ℕ) → Option (RawOperand × List ℕ)
object_or_register text None = as_register [] text
object_or_register text (Some o) = Some o

abbrev pub unflagged : List ℕ × List ℕ → Option (RawOperand × List ℕ)
unflagged s = Some (operands.Symbol s.0 [], s.1)

-- an operand before which no lower-case word stands
unfoldable pub wordless_at : TextOptions → List ℕ → Option (RawOperand × List ℕ)
wordless_at o text =
    if begins_symbol o text then (symbol_at o text >>= unflagged)
    else (if begins_register text then (object_at o text >>= object_or_register text) else plain_at text)

-- an operand behind one word that is no flag of a register: a symbol with flags, or the mask of that name
abbrev pub worded_at : TextOptions → List ℕ → List ℕ → Option (RawOperand × List ℕ)
worded_at o word text =
    if is_word word (codes "target-flags") then flagged_symbol_at o text else (mask_of word >>= λ m. Some (m, text))

-- behind lower-case words
unfoldable pub operand_behind : TextOptions → List (List ℕ) → List ℕ → Option (RawOperand × List ℕ)
operand_behind o [] text = wordless_at o text
operand_behind o (w ∷ []) text = if begins_register text then as_register (w ∷ []) text else worded_at o w text
operand_behind o (w ∷ v ∷ words) text = if begins_register text then as_register (w ∷ v ∷ words) text else None

unfoldable pub operand_at : TextOptions → List ℕ → Option (RawOperand × List ℕ)
operand_at o text = words_at text >>= λ w. operand_behind o w.0 w.1
