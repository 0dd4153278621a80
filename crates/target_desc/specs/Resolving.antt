-- The names of a line, looked up among those that earlier lines declare.
use Rattle.std.specs.Prelude.{ℕ, Bool, true, List, [], ◌∷◌, Option, Some, None, option_map}
use Rattle.target_base.specs.Numbers.{unit_number, reg_number, class_number}
use Rattle.target_base.specs.declared.types.Unit.{Unit as UnitNumber}
use Rattle.target_base.specs.declared.types.Reg.{Reg}
use Rattle.target_base.specs.declared.types.ClassId.{ClassId}
use Rattle.target_base.specs.declared.types.Role.{Role}
use Rattle.target_base.specs.declared.types.Role.TheVariants as roles
use Rattle.target_desc.specs.declared.raw.NamedRole.{NamedRole}
use Rattle.target_desc.specs.declared.raw.NamedRole.TheVariants as named
use Rattle.target_desc.specs.declared.raw.RawRole.{RawRole}
use Rattle.target_desc.specs.declared.raw.RawRole.TheVariants as raw_roles
use Rattle.target_desc.specs.declared.raw.RawLine.{RawLine}
use Rattle.target_desc.specs.declared.raw.RawLine.TheVariants as raw_lines
use Rattle.target_desc.specs.declared.draft.Line.{Line}
use Rattle.target_desc.specs.declared.draft.Line.TheVariants as lines
use Rattle.target_desc.specs.declared.names.NameTables.{NameTables}
use Rattle.target_desc.specs.Forms.{◌>>=◌}
use Rattle.target_desc.specs.Names.{place_of}
use Rattle.word_set.specs.Words.{is_fresh}

abbrev pub unit_named : List (List ℕ) → List ℕ → Option UnitNumber
unit_named names w = option_map unit_number (place_of names w)

abbrev pub reg_named : List (List ℕ) → List ℕ → Option Reg
reg_named names w = option_map reg_number (place_of names w)

abbrev pub class_named : List (List ℕ) → List ℕ → Option ClassId
class_named names w = option_map class_number (place_of names w)

unfoldable pub units_named : List (List ℕ) → List (List ℕ) → Option (List UnitNumber)
units_named names [] = Some []
units_named names (w ∷ ws) = unit_named names w >>= λ u. units_named names ws >>= λ us. Some (u ∷ us)

unfoldable pub regs_named : List (List ℕ) → List (List ℕ) → Option (List Reg)
regs_named names [] = Some []
regs_named names (w ∷ ws) = reg_named names w >>= λ r. regs_named names ws >>= λ rs. Some (r ∷ rs)

-- a role with its name looked up among the classes, or of the last two among the registers
unfoldable pub role_with : NameTables → NamedRole → List ℕ → Option Role
role_with names named.Def w = option_map roles.Def (class_named names.classes w)
role_with names named.Early w = option_map roles.Early (class_named names.classes w)
role_with names named.Read w = option_map roles.Read (class_named names.classes w)
role_with names named.Tied w = option_map (λ k. roles.Tied k 0) (class_named names.classes w)
role_with names named.Address w = option_map roles.Address (class_named names.classes w)
role_with names named.Value w = option_map (λ k. roles.Value (Some k)) (class_named names.classes w)
role_with names named.ImpDef w = option_map roles.ImpDef (reg_named names.regs w)
role_with names named.ImpRead w = option_map roles.ImpRead (reg_named names.regs w)

abbrev pub role_named : NameTables → RawRole → Option Role
role_named names (raw_roles.Plain role) = Some role
role_named names (raw_roles.Named kind w) = role_with names kind w
role_named names (raw_roles.Tied n w) = option_map (λ k. roles.Tied k n) (class_named names.classes w)

unfoldable pub roles_named : NameTables → List RawRole → Option (List Role)
roles_named names [] = Some []
roles_named names (r ∷ rs) = role_named names r >>= λ role. roles_named names rs >>= λ roles. Some (role ∷ roles)

-- the line with its names looked up; None where one isn't declared
unfoldable pub resolved : NameTables → RawLine → Option Line
resolved names (raw_lines.Target h) = Some (lines.Target h)
resolved names (raw_lines.Unit u) = Some (lines.Unit u)
resolved names (raw_lines.Reg name ws) = option_map (λ us. lines.Reg (record { name = name; units = us })) (units_named names.units ws)
resolved names (raw_lines.Reserved ws) = option_map lines.Reserved (regs_named names.regs ws)
resolved names (raw_lines.Index i) = Some (lines.Index i)
resolved names (raw_lines.Class name ws) = option_map (λ rs. lines.Class (record { name = name; regs = rs })) (regs_named names.regs ws)
resolved names (raw_lines.Mask name ws) = option_map (λ rs. lines.Mask (record { name = name; regs = rs })) (regs_named names.regs ws)
resolved names (raw_lines.Opcode name effect rs) = option_map (λ roles. lines.Opcode (record { name = name; effect = effect; roles = roles })) (roles_named names rs)
resolved names (raw_lines.Forms fs) = Some (lines.Forms fs)
resolved names (raw_lines.Flags ws) = Some (lines.Flags ws)

-- the name that a line declares isn't declared yet
unfoldable pub is_new : NameTables → Line → Bool
is_new names (lines.Target h) = true
is_new names (lines.Unit u) = is_fresh names.units u.name
is_new names (lines.Reg r) = is_fresh names.regs r.name
is_new names (lines.Reserved rs) = true
is_new names (lines.Index i) = is_fresh names.indexes i.name
is_new names (lines.Class c) = is_fresh names.classes c.name
is_new names (lines.Mask m) = is_fresh names.masks m.name
is_new names (lines.Opcode o) = is_fresh names.opcodes o.name
is_new names (lines.Forms fs) = true
is_new names (lines.Flags ws) = true
