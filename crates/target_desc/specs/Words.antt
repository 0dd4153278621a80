-- The words that have a meaning of their own.
use Rattle.std.specs.Prelude.{ℕ, List, [], ◌∷◌, Option, Some, None, codes, if◌then◌else◌}
use Rattle.std.specs.Borrow.{Bor}
use Rattle.target_base.specs.Storage.{same_numbers}
use Rattle.target_base.specs.declared.types.Effect.{Effect}
use Rattle.target_base.specs.declared.types.Effect.TheVariants as effects
use Rattle.target_base.specs.declared.types.OpaqueKind.TheVariants as kinds
use Rattle.target_base.specs.declared.types.Role.{Role}
use Rattle.target_base.specs.declared.types.Role.TheVariants as roles
use Rattle.target_desc.specs.declared.raw.LineForm.{LineForm}
use Rattle.target_desc.specs.declared.raw.LineForm.TheVariants as forms
use Rattle.target_desc.specs.declared.raw.TextForm.{TextForm}
use Rattle.target_desc.specs.declared.raw.TextForm.TheVariants as text_forms
use Rattle.target_desc.specs.declared.raw.NamedRole.{NamedRole}
use Rattle.target_desc.specs.declared.raw.NamedRole.TheVariants as named

-- what a word of a table means
abbrev pub meaning_in : {X : Type 0} → List (List ℕ × X) → List ℕ → Option X
meaning_in [] w = None
meaning_in (r ∷ rs) w = if same_numbers w r.0 then Some r.1 else meaning_in rs w

-- a row of a table in the code
abbrev pub row_of : {X : Type 0} → Bor (List ℕ) × X → List ℕ × X
row_of r = (r.0.now, r.1)

-- what the first word of a line says that the line is
abbrev pub form_words : List (List ℕ × LineForm)
form_words =
    (codes "target", forms.Target)
    ∷ (codes "unit", forms.Unit)
    ∷ (codes "reg", forms.Reg)
    ∷ (codes "reserved", forms.Reserved)
    ∷ (codes "index", forms.Index)
    ∷ (codes "class", forms.Class)
    ∷ (codes "mask", forms.Mask)
    ∷ (codes "op", forms.Opcode)
    ∷ (codes "form", forms.Forms)
    ∷ (codes "flags", forms.Flags)
    ∷ []

abbrev pub version_words : List (List ℕ × ℕ)
version_words = (codes "1", 1) ∷ (codes "2", 2) ∷ []

-- what a `form` line opts in
abbrev pub text_form_words : List (List ℕ × TextForm)
text_form_words =
    (codes "offset", text_forms.Offset)
    ∷ (codes "pool", text_forms.Pool)
    ∷ (codes "noreg", text_forms.Noreg)
    ∷ (codes "open", text_forms.Open)
    ∷ []

abbrev pub effect_words : List (List ℕ × Effect)
effect_words =
    (codes "const", effects.Const)
    ∷ (codes "addr", effects.Addr)
    ∷ (codes "add", effects.Add)
    ∷ (codes "sub", effects.Sub)
    ∷ (codes "mul", effects.Mul)
    ∷ (codes "and", effects.And)
    ∷ (codes "or", effects.Or)
    ∷ (codes "xor", effects.Xor)
    ∷ (codes "shl", effects.Shl)
    ∷ (codes "shr", effects.Shr)
    ∷ (codes "sar", effects.Sar)
    ∷ (codes "neg", effects.Neg)
    ∷ (codes "not", effects.Not)
    ∷ (codes "udiv", effects.Udiv)
    ∷ (codes "urem", effects.Urem)
    ∷ (codes "madd", effects.Madd)
    ∷ (codes "zext", effects.Zext)
    ∷ (codes "sext", effects.Sext)
    ∷ (codes "cmp", effects.Cmp)
    ∷ (codes "load/1", effects.Load 1)
    ∷ (codes "load/2", effects.Load 2)
    ∷ (codes "load/4", effects.Load 4)
    ∷ (codes "load/8", effects.Load 8)
    ∷ (codes "load/16", effects.Load 16)
    ∷ (codes "store/1", effects.Store 1)
    ∷ (codes "store/2", effects.Store 2)
    ∷ (codes "store/4", effects.Store 4)
    ∷ (codes "store/8", effects.Store 8)
    ∷ (codes "store/16", effects.Store 16)
    ∷ (codes "jump", effects.Jump)
    ∷ (codes "jcc", effects.Jcc)
    ∷ (codes "jnz", effects.Jnz)
    ∷ (codes "call", effects.Call)
    ∷ (codes "ret", effects.Ret)
    ∷ (codes "marker", effects.Marker)
    ∷ (codes "spill", effects.Spill)
    ∷ (codes "reload", effects.Reload)
    ∷ (codes "opaque", effects.Opaque kinds.Plain)
    ∷ (codes "opaque/branch", effects.Opaque kinds.Branch)
    ∷ (codes "opaque/call", effects.Opaque kinds.Call)
    ∷ (codes "opaque/ret", effects.Opaque kinds.Return)
    ∷ []

-- roles that are one word
abbrev pub plain_role_words : List (List ℕ × Role)
plain_role_words =
    (codes "imm", roles.Imm)
    ∷ (codes "target", roles.Target)
    ∷ (codes "slot", roles.Slot)
    ∷ (codes "lanes", roles.Lanes)
    ∷ (codes "sym", roles.Sym)
    ∷ (codes "frame", roles.Frame)
    ∷ (codes "mask", roles.Mask)
    ∷ (codes "val", roles.Value None)
    ∷ (codes "any", roles.Any)
    ∷ (codes "rest", roles.Rest)
    ∷ []

-- roles that have a colon and a name behind their word
abbrev pub named_role_words : List (List ℕ × NamedRole)
named_role_words =
    (codes "def", named.Def)
    ∷ (codes "early", named.Early)
    ∷ (codes "use", named.Read)
    ∷ (codes "tied", named.Tied)
    ∷ (codes "addr", named.Address)
    ∷ (codes "val", named.Value)
    ∷ (codes "impdef", named.ImpDef)
    ∷ (codes "impuse", named.ImpRead)
    ∷ []
