-- The forms that a line may have.
use Rattle.std.specs.Prelude.{ℕ, Bool, true, false, List, [], ◌∷◌, Option, Some, None, ◌==◌, ◌&&◌, codes, option_map, option_and_then, map, if◌then◌else◌}
use Rattle.std.specs.List.{list_all, before_first, after_first}
use Rattle.target_base.specs.declared.types.Effect.{Effect}
use Rattle.target_base.specs.declared.types.Effect.TheVariants as effects
use Rattle.target_base.specs.declared.types.Role.TheVariants as roles
use Rattle.target_base.specs.Names.{is_name, is_op_name, is_flag_word}
use Rattle.target_base.specs.Storage.{same_numbers}
use Rattle.target_desc.specs.declared.raw.LineForm.{LineForm}
use Rattle.target_desc.specs.declared.raw.LineForm.TheVariants as forms
use Rattle.target_desc.specs.declared.raw.TextForm.{TextForm}
use Rattle.target_desc.specs.declared.raw.NamedRole.TheVariants as named
use Rattle.target_desc.specs.declared.raw.RawRole.{RawRole}
use Rattle.target_desc.specs.declared.raw.RawRole.TheVariants as raw_roles
use Rattle.target_desc.specs.declared.raw.RawLine.{RawLine}
use Rattle.target_desc.specs.declared.raw.RawLine.TheVariants as raw_lines
use Rattle.target_desc.specs.Text.{is_filled, is_number, number}
use Rattle.target_desc.specs.Words.{meaning_in, form_words, version_words, text_form_words, effect_words, plain_role_words, named_role_words}

infixl 10 ◌>>=◌
abbrev pub ◌>>=◌ : {A B : Type 0} → Option A → (A → Option B) → Option B
o >>= f = option_and_then f o

abbrev pub names_in : List (List ℕ) → Option (List (List ℕ))
names_in ws = if list_all is_name ws then Some ws else None

-- one or more names
abbrev pub name_list : List (List ℕ) → Option (List (List ℕ))
name_list [] = None
name_list (w ∷ ws) = names_in (w ∷ ws)

abbrev pub numbers_in : List (List ℕ) → Option (List ℕ)
numbers_in ws = if list_all is_number ws then Some (map number ws) else None

-- one or more numbers
abbrev pub number_list : List (List ℕ) → Option (List ℕ)
number_list [] = None
number_list (w ∷ ws) = numbers_in (w ∷ ws)

-- just two words
abbrev pub two_words : List (List ℕ) → Option (List ℕ × List ℕ)
two_words (a ∷ b ∷ []) = Some (a, b)
two_words _ = None

-- a name and a version
abbrev pub header_of : List ℕ → List ℕ → Option RawLine
header_of name version =
    if is_name name then option_map (λ v. raw_lines.Target (record { name = name; version = v })) (meaning_in version_words version) else None

-- `target NAME V`
abbrev pub target_line : List (List ℕ) → Option RawLine
target_line ws = two_words ws >>= λ p. header_of p.0 p.1

-- a name and a width
abbrev pub unit_of : List ℕ → List ℕ → Option RawLine
unit_of name width =
    if is_name name && is_number width then Some (raw_lines.Unit (record { name = name; width = number width })) else None

-- `unit NAME WIDTH`
abbrev pub unit_line : List (List ℕ) → Option RawLine
unit_line ws = two_words ws >>= λ p. unit_of p.0 p.1

-- `index NAME LANE ..`
abbrev pub index_line : List (List ℕ) → Option RawLine
index_line [] = None
index_line (name ∷ ws) =
    if is_name name then option_map (λ lanes. raw_lines.Index (record { name = name; lanes = lanes })) (number_list ws) else None

-- a name, and then one or more names
abbrev pub named_list : List (List ℕ) → Option (List ℕ × List (List ℕ))
named_list [] = None
named_list (name ∷ ws) = if is_name name then option_map (λ names. (name, names)) (name_list ws) else None

-- `def:K` and its like: a word, a colon and a name
abbrev pub named_role : List ℕ → Option RawRole
named_role w =
    let name = after_first (λ b. b == 58) w in
    if is_name name then option_map (λ role. raw_roles.Named role name) (meaning_in named_role_words (before_first (λ b. b == 58) w)) else None

-- what stands behind `tied/`; nothing in another word
abbrev pub tie_digits : List ℕ → List ℕ
tie_digits w = if same_numbers (before_first (λ b. b == 47) w) (codes "tied") then after_first (λ b. b == 47) w else []

-- `tied/N:K`: the number of a definition and a name
abbrev pub tied_role : List ℕ → Option RawRole
tied_role w =
    let digits = tie_digits (before_first (λ b. b == 58) w) in
    let name = after_first (λ b. b == 58) w in
    if is_number digits && is_name name then Some (raw_roles.Tied (number digits) name) else None

-- the first of two readings, or else the second
abbrev pub either_role : Option RawRole → Option RawRole → Option RawRole
either_role None r = r
either_role (Some role) r = Some role

unfoldable pub role_of : List ℕ → Option RawRole
role_of w = either_role (option_map raw_roles.Plain (meaning_in plain_role_words w)) (either_role (named_role w) (tied_role w))

unfoldable pub roles_of : List (List ℕ) → Option (List RawRole)
roles_of [] = Some []
roles_of (w ∷ ws) = role_of w >>= λ role. roles_of ws >>= λ roles. Some (role ∷ roles)

-- the role stands at each effect; the others stand at opaque ones alone
abbrev pub stands_anywhere : RawRole → Bool
stands_anywhere (raw_roles.Plain (roles.Value k)) = false
stands_anywhere (raw_roles.Named named.Value name) = false
stands_anywhere (raw_roles.Tied n name) = false
stands_anywhere _ = true

-- the effect has such roles: only an opaque one may have none
abbrev pub may_have : Effect → List RawRole → Bool
may_have (effects.Opaque kind) rs = true
may_have e rs = is_filled rs && list_all stands_anywhere rs

-- an opcode's name, effect and roles
abbrev pub opcode_of : List ℕ → Effect → List RawRole → Option RawLine
opcode_of name e rs = if may_have e rs then Some (raw_lines.Opcode name e rs) else None

-- `op NAME EFFECT ROLE ..`
abbrev pub opcode_line : List (List ℕ) → Option RawLine
opcode_line (name ∷ effect ∷ ws) =
    if is_op_name name then (meaning_in effect_words effect >>= λ e. roles_of ws >>= λ rs. opcode_of name e rs) else None
opcode_line _ = None

unfoldable pub text_forms_of : List (List ℕ) → Option (List TextForm)
text_forms_of [] = Some []
text_forms_of (w ∷ ws) = meaning_in text_form_words w >>= λ form. text_forms_of ws >>= λ forms. Some (form ∷ forms)

-- `form WORD ..`
abbrev pub forms_line : List (List ℕ) → Option RawLine
forms_line [] = None
forms_line (w ∷ ws) = option_map raw_lines.Forms (text_forms_of (w ∷ ws))

-- words of `target-flags`
abbrev pub flags_in : List (List ℕ) → Option (List (List ℕ))
flags_in ws = if list_all is_flag_word ws then Some ws else None

-- `flags WORD ..`
abbrev pub flags_line : List (List ℕ) → Option RawLine
flags_line [] = None
flags_line (w ∷ ws) = option_map raw_lines.Flags (flags_in (w ∷ ws))

-- what the words behind the first say
unfoldable pub formed : LineForm → List (List ℕ) → Option RawLine
formed forms.Target ws = target_line ws
formed forms.Unit ws = unit_line ws
formed forms.Reg ws = option_map (λ p. raw_lines.Reg p.0 p.1) (named_list ws)
formed forms.Reserved ws = option_map raw_lines.Reserved (name_list ws)
formed forms.Index ws = index_line ws
formed forms.Class ws = option_map (λ p. raw_lines.Class p.0 p.1) (named_list ws)
formed forms.Mask ws = option_map (λ p. raw_lines.Mask p.0 p.1) (named_list ws)
formed forms.Opcode ws = opcode_line ws
formed forms.Forms ws = forms_line ws
formed forms.Flags ws = flags_line ws

-- what a line says, by its first word and the others; None where it is of no form
abbrev pub raw_line : List ℕ → List (List ℕ) → Option RawLine
raw_line w ws = meaning_in form_words w >>= λ form. formed form ws
