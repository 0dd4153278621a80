-- The rules that the target so far keeps.
use Rattle.std.specs.Prelude.{◌≤◌, Bool, Option, Some, None, length, nat_lt, ◌&&◌, ◌==◌}
use Rattle.std.specs.List.{list_all}
use Rattle.target_base.specs.Rules.{are_units, are_regs, are_indexes, are_classes, are_masks, are_opcodes, are_flag_words}
use Rattle.target_desc.specs.declared.raw.Header.{Header}
use Rattle.target_desc.specs.declared.draft.Draft.{Draft}
use Rattle.target_desc.specs.declared.names.NameTables.{NameTables}
use Rattle.target_desc.specs.Standing.{is_header}

-- only the opcodes of every target are there
abbrev pub is_blank : Draft → Bool
is_blank d =
    length d.units == 0
    && length d.regs == 0
    && length d.reserved == 0
    && length d.indexes == 0
    && length d.classes == 0
    && length d.masks == 0
    && are_opcodes d.units d.regs d.classes d.opcodes
    && are_flag_words d.options.flags

abbrev pub keeps_in : Header → Draft → Bool
keeps_in h d =
    is_header h
    && are_units d.units
    && are_regs h.version d.units d.regs
    && list_all (λ r. nat_lt r.0 (length d.regs)) d.reserved
    && are_indexes h.version d.indexes
    && are_classes d.units d.regs d.classes
    && are_masks (length d.regs) d.masks
    && are_opcodes d.units d.regs d.classes d.opcodes
    && are_flag_words d.options.flags

abbrev pub keeps_under : Option Header → Draft → Bool
keeps_under None d = is_blank d
keeps_under (Some h) d = keeps_in h d

-- the rules of a target that don't wait for its end
unfoldable pub keeps_rules : Draft → Bool
keeps_rules d = keeps_under d.header d

-- there is room for one more name of each sort
pub record AreFew (n : NameTables) : Type 0 where
  pub units : length n.units ≤ 1024
  pub regs : length n.regs ≤ 1024
  pub indexes : length n.indexes ≤ 1024
  pub classes : length n.classes ≤ 1024
  pub masks : length n.masks ≤ 1024
  pub opcodes : length n.opcodes ≤ 1024
