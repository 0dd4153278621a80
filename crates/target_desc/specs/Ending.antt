-- The target that the lines of a whole text make.
use Rattle.std.specs.Prelude.{ℕ, Bool, List, Option, Some, None, length, map, filter, if◌then◌else◌}
use Rattle.std.specs.List.{list_all, list_any, range_with_len}
use Rattle.target_base.specs.declared.types.Unit.{Unit as UnitNumber}
use Rattle.target_base.specs.declared.types.Reg.{Reg}
use Rattle.target_base.specs.declared.types.UnitDesc.{UnitDesc}
use Rattle.target_base.specs.declared.types.RegDesc.{RegDesc}
use Rattle.target_base.specs.declared.types.IndexDesc.{IndexDesc}
use Rattle.target_base.specs.declared.types.ClassDesc.{ClassDesc}
use Rattle.target_base.specs.declared.types.MaskDesc.{MaskDesc}
use Rattle.target_base.specs.declared.types.OpcodeDesc.{OpcodeDesc}
use Rattle.target_base.specs.declared.types.TextOptions.{TextOptions}
use Rattle.target_base.specs.declared.types.Target.{Target}
use Rattle.target_base.specs.Numbers.{unit_number}
use Rattle.target_base.specs.Storage.{reg_units, is_among}
use Rattle.target_base.specs.Rules.{is_complete}
use Rattle.target_desc.specs.declared.raw.Header.{Header}
use Rattle.target_desc.specs.declared.draft.Draft.{Draft}
use Rattle.target_desc.specs.declared.draft.Options.{Options}

-- the parts of a target
pub record Parts : Type 0 where
  pub name : List ℕ
  pub version : ℕ
  pub units : List UnitDesc
  pub regs : List RegDesc
  pub reserved : List UnitNumber
  pub indexes : List IndexDesc
  pub classes : List ClassDesc
  pub masks : List MaskDesc
  pub opcodes : List OpcodeDesc
  pub options : Options

abbrev pub options_of : TextOptions → Options
options_of o = record {
  offsets = o.offsets;
  pool = o.pool;
  noreg = o.noreg;
  open_blocks = o.open_blocks;
  flags = o.flags;
}

abbrev pub parts_of : Target → Parts
parts_of t = record {
  name = t.name;
  version = t.version;
  units = t.units;
  regs = t.regs;
  reserved = t.reserved;
  indexes = t.indexes;
  classes = t.classes;
  masks = t.masks;
  opcodes = t.opcodes;
  options = options_of t.options;
}

-- the unit belongs to one of these registers
abbrev pub belongs : List RegDesc → List Reg → UnitNumber → Bool
belongs regs rs u = list_any (λ r. is_among (reg_units regs r) u) rs

-- the units of the registers that are reserved, by number and each once
abbrev pub reserved_units : ℕ → List RegDesc → List Reg → List UnitNumber
reserved_units units regs rs = filter (belongs regs rs) (map unit_number (range_with_len 0 units))

abbrev pub reserved_of : Draft → List UnitNumber
reserved_of d = reserved_units (length d.units) d.regs d.reserved

unfoldable pub parts_under : Header → Draft → Parts
parts_under h d = record {
  name = h.name;
  version = h.version;
  units = d.units;
  regs = d.regs;
  reserved = reserved_of d;
  indexes = d.indexes;
  classes = d.classes;
  masks = d.masks;
  opcodes = d.opcodes;
  options = d.options;
}

-- each class can be spilled and reloaded, has an unreserved register, and has a part for each index that fits
unfoldable pub is_whole : Draft → Bool
is_whole d = list_all (is_complete d.regs (reserved_of d) d.indexes d.classes d.opcodes) d.classes

abbrev pub ended_under : Option Header → Draft → Option Parts
ended_under None d = None
ended_under (Some h) d = if is_whole d then Some (parts_under h d) else None

-- the target that these lines spell; None where something lacks at the end
abbrev pub ended : Draft → Option Parts
ended d = ended_under d.header d
