-- The key lines of a function document.
use Rattle.std.specs.Prelude.{◌≤◌, ℕ, Bool, true, false, List, [], ◌∷◌, ◌++◌, Option, Some, None, Result, Ok, Err, codes, ◌&&◌, ◌||◌, ◌==◌, is_some, is_none, position, take, drop, ◌+◌, length, if◌then◌else◌}
use Rattle.target_base.specs.Names.{is_letter, is_digit, is_name_byte}
use Rattle.target_base.specs.declared.types.ClassId.{ClassId}
use Rattle.mir_lines.specs.Bytes.{run, behind, skip, skip_back, is_word, behind_word, before_word}
use Rattle.mir_lines.specs.Numbers.{is_filled, number_of}
use Rattle.mir_lines.specs.Registers.{without_zeros}
use Rattle.mir_read.specs.declared.stop.TextKind.{TextKind}
use Rattle.mir_read.specs.declared.stop.TextKind.TheVariants as kinds
use Rattle.mir_read.specs.declared.keys.Key.{Key}
use Rattle.mir_read.specs.declared.keys.Key.TheVariants as keys
use Rattle.mir_read.specs.declared.keys.Keys.{Keys}
use Rattle.mir_read.specs.declared.ranges.AnnotatedClass.TheVariants as given
use Rattle.mir_read.specs.Names.{NameLists, class_named}
use Rattle.mir_read.specs.Ranges.{no_ranges, mentioned}
use Rattle.mir_read.specs.Reading.{◌>>=◌}
use Rattle.mir_read.specs.Resolving.{◌>>?◌}

-- before the first key line
abbrev pub no_keys : Keys
no_keys = record { key = keys.Outside; name = None; head = []; frames = []; registers = no_ranges }

-- The name's value.

abbrev pub or_whole : List ℕ → Option (List ℕ) → List ℕ
or_whole text None = text
or_whole text (Some inside) = inside

-- without one pair of single quotes
unfoldable pub unquoted : List ℕ → List ℕ
unquoted text = or_whole text (behind_word (codes "'") text >>? λ inside. before_word (codes "'") inside)

-- without spaces at its ends and one pair of single quotes; it isn't empty
unfoldable pub name_value : List ℕ → Option (List ℕ)
name_value text =
    let value = unquoted (skip_back (skip text)) in
    if is_filled value then Some value else None

abbrev pub is_bar : Option (List ℕ) → Bool
is_bar None = false
is_bar (Some rest) = is_word (skip rest) (codes "|")

-- the value of the `body` key: spaces and a bar
unfoldable pub is_body_value : List ℕ → Bool
is_body_value text = is_bar (behind_word (codes " ") text)

-- Lines that declare something.

-- `  - { id: N`: the digits of the number, and the rest
unfoldable pub declared_number : List ℕ → Option (List ℕ × List ℕ)
declared_number line =
    behind_word (codes "  - { id: ") line >>? λ text. number_of (run is_digit text) >>? λ n. Some (run is_digit text, behind is_digit text)

abbrev pub ends_class : List ℕ → Bool
ends_class text = is_some (behind_word (codes ",") text) || is_some (behind_word (codes " }") text)

-- `, class: C` and a comma or the end of the braces
unfoldable pub class_word : List ℕ → Option (List ℕ)
class_word text =
    behind_word (codes ", class: ") text >>? λ rest. if is_filled (run is_name_byte rest) && ends_class (behind is_name_byte rest) then Some (run is_name_byte rest) else None

-- the register and the name of the class that a line of `registers` gives it
unfoldable pub declared_class : List ℕ → Option (List ℕ × List ℕ)
declared_class line = declared_number line >>? λ d. class_word d.1 >>? λ c. Some (without_zeros d.0, c)

-- a text contains this part
abbrev pub contains : List ℕ → List ℕ → Bool
contains part [] = false
contains part (b ∷ bs) = is_some (behind_word part (b ∷ bs)) || contains part bs

abbrev pub frame_in : List ℕ → List ℕ → Option (ℕ × Bool)
frame_in line digits = number_of digits >>? λ n. Some (n, contains (codes "type: spill-slot") line)

-- the frame object that a line of `stack` declares, and whether it is a spill slot
unfoldable pub declared_frame : List ℕ → Option (ℕ × Bool)
declared_frame line = declared_number line >>? λ d. if is_some (behind_word (codes ",") d.1) then frame_in line d.0 else None

-- What a line is: it begins a key, or belongs to the one before it.

abbrev pub is_key : Key → Key → Bool
is_key keys.Outside keys.Outside = true
is_key keys.Registers keys.Registers = true
is_key keys.Liveins keys.Liveins = true
is_key keys.Stack keys.Stack = true
is_key keys.Body keys.Body = true
is_key keys.Other keys.Other = true
is_key a b = false

-- `registers`, `liveins`, `stack` and others; `name` and `body` are read elsewhere
unfoldable pub key_named : List ℕ → Key
key_named name =
    if is_word name (codes "registers") then keys.Registers
    else (if is_word name (codes "liveins") then keys.Liveins
    else (if is_word name (codes "stack") then keys.Stack else keys.Other))

abbrev pub with_name_value : Keys → Option (List ℕ) → Result Keys TextKind
with_name_value k None = Err kinds.Token
with_name_value k (Some value) = Ok (record k { key = keys.Other; name = Some value })

-- the name stands once
unfoldable pub name_begun : Keys → List ℕ → Result Keys TextKind
name_begun k value = if is_some k.name then Err kinds.Layout else with_name_value k (name_value value)

-- the body comes behind the name
unfoldable pub body_begun : Keys → List ℕ → Result Keys TextKind
body_begun k value =
    if is_none k.name then Err kinds.Layout
    else (if is_body_value value then Ok (record k { key = keys.Body }) else Err kinds.Token)

unfoldable pub key_begun : Keys → List ℕ → List ℕ → Result Keys TextKind
key_begun k name value =
    if is_word name (codes "name") then name_begun k value
    else (if is_word name (codes "body") then body_begun k value
    else Ok (record k { key = key_named name }))

-- a line that belongs to the key before it
unfoldable pub continued : Keys → Result Keys TextKind
continued k = if is_key k.key keys.Outside then Err kinds.Layout else Ok k

abbrev pub cut_in : List ℕ → Option ℕ → Option (List ℕ × List ℕ)
cut_in line None = None
cut_in line (Some k) = Some (take k line, drop (k + 1) line)

-- a key line has a colon: what stands before and behind the first
unfoldable pub colon_cut : List ℕ → Option (List ℕ × List ℕ)
colon_cut line = cut_in line (position (λ b. b == 58) line)

abbrev pub begun_with : Keys → Option (List ℕ × List ℕ) → Result Keys TextKind
begun_with k None = Err kinds.Layout
begun_with k (Some p) = key_begun k p.0 p.1

-- a letter begins a key; a space, a `#` and the end of the line go on with the one before
unfoldable pub found : Keys → List ℕ → Result Keys TextKind
found k [] = continued k
found k (b ∷ bs) =
    if is_letter b then begun_with k (colon_cut (b ∷ bs))
    else (if b == 32 || b == 35 then continued k else Err kinds.Layout)

abbrev pub with_class : Keys → List ℕ → Option ClassId → Result Keys TextKind
with_class k name None = Err kinds.Name
with_class k name (Some c) = Ok (record k { registers = mentioned k.registers name given.Nothing (given.One c) })

abbrev pub with_declared : NameLists → Keys → Option (List ℕ × List ℕ) → Result Keys TextKind
with_declared names k None = Ok k
with_declared names k (Some p) = with_class k p.0 (class_named names p.1)

abbrev pub with_frame : Keys → Option (ℕ × Bool) → Keys
with_frame k None = k
with_frame k (Some f) = record k { frames = k.frames ++ f ∷ [] }

-- what a line of a key declares; a class that the target lacks is a fault
unfoldable pub declared : NameLists → Keys → List ℕ → Result Keys TextKind
declared names k line =
    if is_key k.key keys.Registers then with_declared names k (declared_class line)
    else (if is_key k.key keys.Stack then Ok (with_frame k (declared_frame line)) else Ok k)

-- lines are kept, but those of the keys that name virtual registers
unfoldable pub kept : Keys → List ℕ → Keys
kept k line =
    if is_key k.key keys.Registers || is_key k.key keys.Liveins then k else record k { head = k.head ++ (line ++ codes "\n") }

-- the keys with one line before the body, or the first test that the line fails
unfoldable pub key_line : NameLists → Keys → List ℕ → Result Keys TextKind
key_line names k line = found k line >>= λ f. declared names f line >>= λ d. Ok (kept d line)

-- how much one line adds
pub record AddsToKeys (n : ℕ) (before after : Keys) : Type 0 where
  pub frames : length after.frames ≤ length before.frames + n
  pub registers : length after.registers.names ≤ length before.registers.names + n
