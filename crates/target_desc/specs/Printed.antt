-- The printed text of a target: its header, what it opts in, then each sort in target order, one line each.
use Rattle.std.specs.Prelude.{ℕ, Bool, true, false, List, [], ◌∷◌, ◌++◌, ◌==◌, if◌then◌else◌, Option, Some, None, codes, map, filter, drop, slice_get, length}
use Rattle.std.specs.List.{list_all, flat_map, range_with_len}
use Rattle.std.specs.Fmt.{decimal}
use Rattle.target_base.specs.declared.types.Unit.{Unit as UnitNumber}
use Rattle.target_base.specs.declared.types.Reg.{Reg}
use Rattle.target_base.specs.declared.types.ClassId.{ClassId}
use Rattle.target_base.specs.declared.types.UnitDesc.{UnitDesc}
use Rattle.target_base.specs.declared.types.RegDesc.{RegDesc}
use Rattle.target_base.specs.declared.types.IndexDesc.{IndexDesc}
use Rattle.target_base.specs.declared.types.ClassDesc.{ClassDesc}
use Rattle.target_base.specs.declared.types.MaskDesc.{MaskDesc}
use Rattle.target_base.specs.declared.types.OpcodeDesc.{OpcodeDesc}
use Rattle.target_base.specs.declared.types.Effect.{Effect}
use Rattle.target_base.specs.declared.types.Effect.TheVariants as effects
use Rattle.target_base.specs.declared.types.OpaqueKind.TheVariants as kinds
use Rattle.target_base.specs.declared.types.Role.{Role}
use Rattle.target_base.specs.declared.types.Role.TheVariants as roles
use Rattle.target_base.specs.Numbers.{reg_number}
use Rattle.target_base.specs.Storage.{reg_units, is_among}
use Rattle.target_desc.specs.declared.draft.Options.{Options}
use Rattle.target_desc.specs.MiniText.{ended_line}
use Rattle.target_desc.specs.Ending.{Parts}

abbrev pub name_in : {X : Type 0} → (X → List ℕ) → Option X → List ℕ
name_in name None = []
name_in name (Some x) = name x

-- the name of the element at a place of a list
abbrev pub name_at : {X : Type 0} → (X → List ℕ) → List X → ℕ → List ℕ
name_at name xs k = name_in name (slice_get xs k)

-- words with one space between them
abbrev pub spaced : List (List ℕ) → List ℕ
spaced [] = []
spaced (w ∷ ws) = w ++ flat_map (λ v. 32 ∷ v) ws

abbrev pub unit_words : List UnitDesc → List UnitNumber → List (List ℕ)
unit_words units us = map (λ u. name_at (λ d. d.name) units u.0) us

abbrev pub reg_words : List RegDesc → List Reg → List (List ℕ)
reg_words regs rs = map (λ r. name_at (λ d. d.name) regs r.0) rs

abbrev pub header_line : List ℕ → ℕ → List ℕ
header_line name version = spaced (codes "target" ∷ name ∷ decimal version ∷ [])

-- a line that begins with a word, and behind it has one or more; there is none where these are none
abbrev pub listed : List ℕ → List (List ℕ) → List (List ℕ)
listed word [] = []
listed word (w ∷ ws) = spaced (word ∷ w ∷ ws) ∷ []

abbrev pub word_if : Bool → List ℕ → List (List ℕ)
word_if true w = w ∷ []
word_if false w = []

-- the forms of text that are opted in
abbrev pub form_words : Options → List (List ℕ)
form_words o = word_if o.offsets (codes "offset") ++ word_if o.pool (codes "pool") ++ word_if o.noreg (codes "noreg") ++ word_if o.open_blocks (codes "open")

abbrev pub option_lines : Options → List (List ℕ)
option_lines o = listed (codes "form") (form_words o) ++ listed (codes "flags") o.flags

abbrev pub unit_line : UnitDesc → List ℕ
unit_line u = spaced (codes "unit" ∷ u.name ∷ decimal u.width ∷ [])

abbrev pub reg_line : List UnitDesc → RegDesc → List ℕ
reg_line units r = spaced (codes "reg" ∷ r.name ∷ unit_words units r.units)

abbrev pub index_line : IndexDesc → List ℕ
index_line i = spaced (codes "index" ∷ i.name ∷ map decimal i.lanes)

abbrev pub class_line : List RegDesc → ClassDesc → List ℕ
class_line regs c = spaced (codes "class" ∷ c.name ∷ reg_words regs c.regs)

abbrev pub mask_line : List RegDesc → MaskDesc → List ℕ
mask_line regs m = spaced (codes "mask" ∷ m.name ∷ reg_words regs m.regs)

-- the registers all of whose units are reserved
abbrev pub reserved_regs : List RegDesc → List UnitNumber → List Reg
reserved_regs regs reserved = filter (λ r. list_all (is_among reserved) (reg_units regs r)) (map reg_number (range_with_len 0 (length regs)))

-- one line names them all
abbrev pub reserved_lines : List RegDesc → List Reg → List (List ℕ)
reserved_lines regs rs = listed (codes "reserved") (reg_words regs rs)

-- the word of an effect; the five opcodes of every target are not declared, so theirs have none
abbrev pub effect_word : Effect → List ℕ
effect_word effects.Copy = []
effect_word effects.Phi = []
effect_word effects.ImplicitDef = []
effect_word effects.RegSequence = []
effect_word effects.InsertSubreg = []
effect_word effects.Const = codes "const"
effect_word effects.Addr = codes "addr"
effect_word effects.Add = codes "add"
effect_word effects.Sub = codes "sub"
effect_word effects.Mul = codes "mul"
effect_word effects.And = codes "and"
effect_word effects.Or = codes "or"
effect_word effects.Xor = codes "xor"
effect_word effects.Shl = codes "shl"
effect_word effects.Shr = codes "shr"
effect_word effects.Sar = codes "sar"
effect_word effects.Neg = codes "neg"
effect_word effects.Not = codes "not"
effect_word effects.Udiv = codes "udiv"
effect_word effects.Urem = codes "urem"
effect_word effects.Madd = codes "madd"
effect_word effects.Zext = codes "zext"
effect_word effects.Sext = codes "sext"
effect_word effects.Cmp = codes "cmp"
effect_word (effects.Load s) = codes "load/" ++ decimal s
effect_word (effects.Store s) = codes "store/" ++ decimal s
effect_word effects.Jump = codes "jump"
effect_word effects.Jcc = codes "jcc"
effect_word effects.Jnz = codes "jnz"
effect_word effects.Call = codes "call"
effect_word effects.Ret = codes "ret"
effect_word effects.Marker = codes "marker"
effect_word effects.Spill = codes "spill"
effect_word effects.Reload = codes "reload"
effect_word (effects.Opaque kinds.Plain) = codes "opaque"
effect_word (effects.Opaque kinds.Branch) = codes "opaque/branch"
effect_word (effects.Opaque kinds.Call) = codes "opaque/call"
effect_word (effects.Opaque kinds.Return) = codes "opaque/ret"

abbrev pub class_name : List ClassDesc → ClassId → List ℕ
class_name classes k = name_at (λ d. d.name) classes k.0

abbrev pub reg_name : List RegDesc → Reg → List ℕ
reg_name regs r = name_at (λ d. d.name) regs r.0

-- a tie to the first definition has no number
abbrev pub tie_word : ℕ → List ℕ
tie_word n = if n == 0 then codes "tied:" else codes "tied/" ++ decimal n ++ codes ":"

abbrev pub role_word : List ClassDesc → List RegDesc → Role → List ℕ
role_word classes regs (roles.Def k) = codes "def:" ++ class_name classes k
role_word classes regs (roles.Early k) = codes "early:" ++ class_name classes k
role_word classes regs (roles.Read k) = codes "use:" ++ class_name classes k
role_word classes regs (roles.Tied k n) = tie_word n ++ class_name classes k
role_word classes regs roles.Imm = codes "imm"
role_word classes regs roles.Target = codes "target"
role_word classes regs roles.Slot = codes "slot"
role_word classes regs roles.Lanes = codes "lanes"
role_word classes regs roles.Sym = codes "sym"
role_word classes regs roles.Frame = codes "frame"
role_word classes regs (roles.Address k) = codes "addr:" ++ class_name classes k
role_word classes regs roles.Mask = codes "mask"
role_word classes regs (roles.Value None) = codes "val"
role_word classes regs (roles.Value (Some k)) = codes "val:" ++ class_name classes k
role_word classes regs roles.Any = codes "any"
role_word classes regs (roles.ImpDef r) = codes "impdef:" ++ reg_name regs r
role_word classes regs (roles.ImpRead r) = codes "impuse:" ++ reg_name regs r
role_word classes regs roles.Rest = codes "rest"

abbrev pub opcode_line : List ClassDesc → List RegDesc → OpcodeDesc → List ℕ
opcode_line classes regs o = spaced (codes "op" ∷ o.name ∷ effect_word o.effect ∷ map (role_word classes regs) o.roles)

-- the lines of a target; the first five opcodes belong to every target and have none
abbrev pub target_lines : Parts → List (List ℕ)
target_lines p =
    header_line p.name p.version
    ∷ option_lines p.options
    ++ map unit_line p.units
    ++ map (reg_line p.units) p.regs
    ++ reserved_lines p.regs (reserved_regs p.regs p.reserved)
    ++ map index_line p.indexes
    ++ map (class_line p.regs) p.classes
    ++ map (mask_line p.regs) p.masks
    ++ map (opcode_line p.classes p.regs) (drop 5 p.opcodes)

abbrev pub target_text : Parts → List ℕ
target_text p = flat_map ended_line (target_lines p)
