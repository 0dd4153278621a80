-- The target that the lines so far make, and the names that they declare.
use Rattle.std.specs.Prelude.{ℕ, false, List, [], ◌∷◌, None, codes, map}
use Rattle.std.specs.Borrow.{Bor}
use Rattle.target_base.specs.declared.types.OpcodeDesc.{OpcodeDesc}
use Rattle.target_base.specs.declared.types.Effect.{Effect}
use Rattle.target_base.specs.declared.types.Effect.TheVariants as effects
use Rattle.target_desc.specs.declared.draft.Draft.{Draft}
use Rattle.target_desc.specs.declared.draft.Options.{Options}
use Rattle.target_desc.specs.declared.names.NameTables.{NameTables}

abbrev pub without_roles : List ℕ → Effect → OpcodeDesc
without_roles name effect = record { name = name; effect = effect; roles = [] }

-- the opcodes that belong to every target
abbrev pub the_five : List OpcodeDesc
the_five =
    without_roles (codes "COPY") effects.Copy
    ∷ without_roles (codes "PHI") effects.Phi
    ∷ without_roles (codes "IMPLICIT_DEF") effects.ImplicitDef
    ∷ without_roles (codes "REG_SEQUENCE") effects.RegSequence
    ∷ without_roles (codes "INSERT_SUBREG") effects.InsertSubreg
    ∷ []

-- a row of a table of opcodes
abbrev pub opcode_row : Bor (List ℕ) × Effect → OpcodeDesc
opcode_row r = without_roles r.0.now r.1

abbrev pub name_in : Bor (List ℕ) × Effect → List ℕ
name_in r = r.0.now

-- nothing is opted in
abbrev pub no_options : Options
no_options = record { offsets = false; pool = false; noreg = false; open_blocks = false; flags = [] }

-- before the first line
unfoldable pub empty_draft : Draft
empty_draft = record {
  header = None;
  units = [];
  regs = [];
  reserved = [];
  indexes = [];
  classes = [];
  masks = [];
  opcodes = the_five;
  options = no_options;
}

-- the names of each sort, in the order of their declaration
abbrev pub names_of : Draft → NameTables
names_of d = record {
  units = map (λ u. u.name) d.units;
  regs = map (λ r. r.name) d.regs;
  indexes = map (λ i. i.name) d.indexes;
  classes = map (λ c. c.name) d.classes;
  masks = map (λ m. m.name) d.masks;
  opcodes = map (λ o. o.name) d.opcodes;
}
