-- The header, the successors and the live-in registers that a line spells, before names are looked up.
use Rattle.std.specs.Prelude.{ℕ, Bool, List, [], ◌∷◌, Option, Some, None, codes, ◌||◌, is_some, is_none, if◌then◌else◌}
use Rattle.std.specs.List.{list_all}
use Rattle.target_base.specs.Names.{is_digit}
use Rattle.mir_lines.specs.declared.raw.RawHeader.{RawHeader}
use Rattle.mir_lines.specs.declared.raw.RawEdge.{RawEdge}
use Rattle.mir_lines.specs.Bytes.{run, behind, skip, skip_back, behind_word, before_word, is_ascii, is_blank}
use Rattle.mir_lines.specs.Parts.{each, comma_parts}
use Rattle.mir_lines.specs.Reads.{◌>>=◌}
use Rattle.mir_lines.specs.Numbers.{number_of, hex_at_most}
use Rattle.mir_lines.specs.Registers.{name_at}
use Rattle.mir_lines.specs.Operands.{numbered_at}

-- the text between parentheses, or no text
unfoldable pub in_parentheses : List ℕ → Option (List ℕ)
in_parentheses [] = Some []
in_parentheses (b ∷ bs) = behind_word (codes "(") (b ∷ bs) >>= λ inside. before_word (codes ")") inside

-- the text in parentheses before the colon of a header, or none
unfoldable pub attributes_of : List ℕ → Option (List ℕ)
attributes_of text = before_word (codes ":") text >>= λ before. in_parentheses (skip_back (skip before))

abbrev pub or_none : Option (List ℕ) → List ℕ
or_none None = []
or_none (Some label) = label

abbrev pub header_in : List ℕ → Option RawHeader
header_in text =
    numbered_at text >>= λ p. attributes_of p.1 >>= λ a. Some (record { number = p.0.0; name = or_none p.0.1; attributes = a })

-- `bb.N`, a name or none, a text in parentheses or none, a colon
unfoldable pub header_of : List ℕ → Option RawHeader
header_of text = behind_word (codes "bb.") (skip_back text) >>= λ rest. if is_ascii rest then header_in rest else None

-- a list with commas between its elements; it may be empty
abbrev pub comma_list : {X : Type 0} → (List ℕ → Option X) → List ℕ → Option (List X)
comma_list one text = if is_blank text then Some [] else each one (comma_parts text)

-- a probability: `0x` and hexadecimal digits, at most 2^31
unfoldable pub share_of : List ℕ → Option ℕ
share_of text = behind_word (codes "0x") (skip_back (skip text)) >>= λ digits. hex_at_most 2147483648 digits

-- a probability in parentheses, where one is written
unfoldable pub share_behind : List ℕ → Option (Option ℕ)
share_behind [] = Some None
share_behind (b ∷ bs) =
    behind_word (codes "(") (b ∷ bs) >>= λ inside. before_word (codes ")") inside >>= λ text. share_of text >>= λ p. Some (Some p)

abbrev pub edge_in : List ℕ → Option RawEdge
edge_in text =
    number_of (run is_digit text) >>= λ n. share_behind (skip_back (skip (behind is_digit text))) >>= λ p. Some (record { block = n; prob = p })

-- `%bb.N`, with a probability or without
unfoldable pub edge_of : List ℕ → Option RawEdge
edge_of text = behind_word (codes "%bb.") (skip text) >>= edge_in

-- all with a probability or all without
unfoldable pub are_alike : List RawEdge → Bool
are_alike es = list_all (λ e. is_some e.prob) es || list_all (λ e. is_none e.prob) es

abbrev pub alike : List RawEdge → Option (List RawEdge)
alike es = if are_alike es then Some es else None

-- what stands behind `successors:`
unfoldable pub successors_of : List ℕ → Option (List RawEdge)
successors_of text = comma_list edge_of text >>= alike

abbrev pub whole_name : List ℕ × List ℕ → Option (List ℕ)
whole_name p = if is_blank p.1 then Some p.0 else None

-- `$name`
unfoldable pub livein_of : List ℕ → Option (List ℕ)
livein_of text = behind_word (codes "$") (skip text) >>= λ rest. name_at rest >>= whole_name

-- what stands behind `liveins:`
unfoldable pub liveins_of : List ℕ → Option (List (List ℕ))
liveins_of text = comma_list livein_of text
