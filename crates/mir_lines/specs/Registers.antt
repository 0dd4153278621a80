-- Names, words and register operands at the front of a text.
use Rattle.std.specs.Prelude.{ℕ, Bool, false, List, [], ◌∷◌, Option, Some, None, length, codes, not, ◌&&◌, ◌||◌, ◌==◌, suc, zero, is_some, if◌then◌else◌}
use Rattle.std.specs.List.{list_all, list_any}
use Rattle.target_base.specs.Names.{is_letter, is_digit, is_name_byte}
use Rattle.mir_lines.specs.declared.raw.RawPlace.{RawPlace}
use Rattle.mir_lines.specs.declared.raw.RawPlace.TheVariants as places
use Rattle.mir_lines.specs.declared.raw.RawReg.{RawReg}
use Rattle.mir_lines.specs.Bytes.{is_flag_byte, is_word_byte, is_label_byte, run, behind, skip, is_word, behind_word}
use Rattle.mir_lines.specs.Reads.{◌>>=◌, before}
use Rattle.mir_lines.specs.Numbers.{is_filled, decimal_at_most, number_of}

-- a byte follows that can't stand right behind a token which ends in a name character
unfoldable pub continues : List ℕ → Bool
continues [] = false
continues (b ∷ bs) = is_label_byte b || (b == 64 || (b == 38 || (b == 37 || b == 34)))

-- a token that ends here
abbrev pub ending : {X : Type 0} → X → List ℕ → Option (X × List ℕ)
ending x rest = if continues rest then None else Some (x, rest)

-- the word stands first, and no longer one does
abbrev pub is_ended : Option (List ℕ) → Bool
is_ended None = false
is_ended (Some rest) = not (continues rest)

-- a word that begins a tail stands first
unfoldable pub is_tail_word : List ℕ → Bool
is_tail_word text = is_ended (behind_word (codes "debug-location") text) || is_ended (behind_word (codes "debug-instr-number") text)

-- a word of lower-case letters and dashes stands first, and begins no tail
unfoldable pub is_flag_ahead : List ℕ → Bool
is_flag_ahead text =
    let word = run is_word_byte text in
    (is_filled word && list_all is_flag_byte word) && not (is_tail_word text)

-- The words of lower-case letters and dashes that stand first, and the text behind them. Each takes a byte at
-- least, so n is large enough where the text has no more bytes.
abbrev pub words_from : ℕ → List ℕ → Option (List (List ℕ) × List ℕ)
words_from zero text = Some ([], text)
words_from (suc n) text =
    if is_flag_ahead text
    then (if continues (behind is_word_byte text) then None else before (run is_word_byte text) (words_from n (skip (behind is_word_byte text))))
    else Some ([], text)

unfoldable pub words_at : List ℕ → Option (List (List ℕ) × List ℕ)
words_at text = words_from (length (skip text)) (skip text)

-- a name: a letter, then letters, digits and underscores
unfoldable pub name_at : List ℕ → Option (List ℕ × List ℕ)
name_at [] = None
name_at (b ∷ bs) = if is_letter b then Some (run is_name_byte (b ∷ bs), behind is_name_byte (b ∷ bs)) else None

abbrev pub some_name : List ℕ × List ℕ → Option (Option (List ℕ) × List ℕ)
some_name p = Some (Some p.0, p.1)

-- a name behind a mark byte, where the mark stands first
unfoldable pub marked_name_at : ℕ → List ℕ → Option (Option (List ℕ) × List ℕ)
marked_name_at mark [] = Some (None, [])
marked_name_at mark (b ∷ bs) = if b == mark then (name_at bs >>= some_name) else Some (None, b ∷ bs)

-- a class behind a colon, where one stands first; two colons begin a tail
unfoldable pub class_at : List ℕ → Option (Option (List ℕ) × List ℕ)
class_at text = if is_some (behind_word (codes "::") text) then Some (None, text) else marked_name_at 58 text

abbrev pub begins_with_digit : List ℕ → Bool
begins_with_digit [] = false
begins_with_digit (b ∷ bs) = is_digit b

-- digits without the zeros before the number that they spell
unfoldable pub without_zeros : List ℕ → List ℕ
without_zeros digits = if list_all (λ b. b == 48) digits then codes "0" else behind (λ b. b == 48) digits

-- words behind a percent sign that name no virtual register
unfoldable pub is_kept_word : List ℕ → Bool
is_kept_word name =
    is_word name (codes "bb")
    || (is_word name (codes "stack")
    || (is_word name (codes "fixed-stack")
    || (is_word name (codes "subreg")
    || (is_word name (codes "const")
    || (is_word name (codes "jump-table")
    || is_word name (codes "ir"))))))

-- letters, digits, underscores and dashes that begin with a letter or an underscore, and are no kept word
unfoldable pub is_virtual_name : List ℕ → Bool
is_virtual_name [] = false
is_virtual_name (b ∷ bs) = (is_letter b || b == 95) && not (is_kept_word (b ∷ bs))

-- the name of a virtual register behind the percent sign: its digits without zeros before them, or its word
unfoldable pub virtual_name_at : List ℕ → Option (List ℕ × List ℕ)
virtual_name_at text =
    if begins_with_digit text
    then (number_of (run is_digit text) >>= λ n. Some (without_zeros (run is_digit text), behind is_digit text))
    else (if is_virtual_name (run is_word_byte text) then Some (run is_word_byte text, behind is_word_byte text) else None)

-- a virtual register with its index and its class, where they are written
unfoldable pub virtual_at : List ℕ → Option (RawPlace × List ℕ)
virtual_at text =
    virtual_name_at text >>= λ v. marked_name_at 46 v.1 >>= λ i. class_at i.1 >>= λ c. Some (places.Virtual v.0 i.0 c.0, c.1)

-- a physical register behind the dollar sign
abbrev pub fixed_at : List ℕ → Option (RawPlace × List ℕ)
fixed_at text = name_at text >>= λ p. Some (places.Fixed p.0, p.1)

-- a physical or a virtual register
unfoldable pub place_at : List ℕ → Option (RawPlace × List ℕ)
place_at [] = None
place_at (b ∷ bs) =
    if b == 36 then fixed_at bs
    else (if b == 37 then virtual_at bs else None)

-- the word is among these
abbrev pub has_word : List ℕ → List (List ℕ) → Bool
has_word word words = list_any (λ w. is_word w word) words

-- a flag of a register operand
unfoldable pub is_reg_flag : List ℕ → Bool
is_reg_flag w =
    is_word w (codes "implicit")
    || (is_word w (codes "implicit-def")
    || (is_word w (codes "dead")
    || (is_word w (codes "killed")
    || (is_word w (codes "undef")
    || (is_word w (codes "early-clobber")
    || is_word w (codes "renamable"))))))

abbrev pub is_implicit : List (List ℕ) → Bool
is_implicit words = has_word (codes "implicit") words || has_word (codes "implicit-def") words

-- `implicit` doesn't stand with `implicit-def`, and neither before the equals sign
unfoldable pub may_flag : Bool → List (List ℕ) → Bool
may_flag def words =
    list_all is_reg_flag words
    && (not (has_word (codes "implicit") words && has_word (codes "implicit-def") words) && not (def && is_implicit words))

-- a register with these flags; def says that it stands before the equals sign
unfoldable pub flagged : Bool → List (List ℕ) → RawPlace → RawReg
flagged def words place = record {
  place = place;
  def = def || has_word (codes "implicit-def") words;
  implicit = is_implicit words;
  undef = has_word (codes "undef") words;
  early = has_word (codes "early-clobber") words;
  tie = None;
}

abbrev pub closed_tie : ℕ → Option (List ℕ) → Option (Option ℕ × List ℕ)
closed_tie k None = None
closed_tie k (Some rest) = Some (Some k, rest)

-- the number of a tie and its closing parenthesis
unfoldable pub tie_number_at : List ℕ → Option (Option ℕ × List ℕ)
tie_number_at text = decimal_at_most 255 (run is_digit text) >>= λ k. closed_tie k (behind_word (codes ")") (skip (behind is_digit text)))

abbrev pub tie_in : List ℕ → Option (List ℕ) → Option (Option ℕ × List ℕ)
tie_in text None = Some (None, text)
tie_in text (Some inside) = behind_word (codes "tied-def ") (skip inside) >>= λ rest. tie_number_at (skip rest)

-- the tie behind a use, where one is written
unfoldable pub tie_at : List ℕ → Option (Option ℕ × List ℕ)
tie_at text = tie_in text (behind_word (codes "(") (skip text))

-- a use may have a tie
unfoldable pub tied : RawReg → List ℕ → Option (RawReg × List ℕ)
tied reg rest =
    if continues rest then None
    else (if reg.def then Some (reg, rest) else (tie_at rest >>= λ t. Some (record reg { tie = t.0 }, t.1)))

-- a register operand behind these flags
unfoldable pub register_at : Bool → List (List ℕ) → List ℕ → Option (RawReg × List ℕ)
register_at def words text =
    if may_flag def words then (place_at text >>= λ p. tied (flagged def words p.0) p.1) else None
