-- The rules of a line after the lines before it.
use Rattle.std.specs.Prelude.{ℕ, Bool, true, false, Option, Some, None, length, nat_lt, ◌&&◌, ◌||◌, ◌==◌}
use Rattle.std.specs.List.{list_all}
use Rattle.target_base.specs.Names.{is_name, is_flag_word}
use Rattle.target_base.specs.Rules.{is_unit_desc, is_reg_desc, is_index_desc, is_class_desc, is_mask_desc, is_opcode_desc}
use Rattle.target_desc.specs.declared.raw.Header.{Header}
use Rattle.target_desc.specs.declared.draft.Draft.{Draft}
use Rattle.target_desc.specs.declared.draft.Line.{Line}
use Rattle.target_desc.specs.declared.draft.Line.TheVariants as lines

-- under the `target` line of this version
unfoldable pub stands_in : ℕ → Draft → Line → Bool
stands_in version d (lines.Target h) = false
stands_in version d (lines.Unit u) = nat_lt (length d.units) 512 && is_unit_desc u
stands_in version d (lines.Reg r) = nat_lt (length d.regs) 512 && is_reg_desc version d.units r
stands_in version d (lines.Reserved rs) = list_all (λ r. nat_lt r.0 (length d.regs)) rs
stands_in version d (lines.Index i) = nat_lt (length d.indexes) 512 && is_index_desc version i
stands_in version d (lines.Class c) = nat_lt (length d.classes) 512 && is_class_desc d.units d.regs c
stands_in version d (lines.Mask m) = nat_lt (length d.masks) 512 && is_mask_desc (length d.regs) m
stands_in version d (lines.Opcode o) = nat_lt (length d.opcodes) 1024 && is_opcode_desc d.units d.regs d.classes o
stands_in version d (lines.Forms fs) = true
stands_in version d (lines.Flags ws) = list_all is_flag_word ws

abbrev pub is_header : Header → Bool
is_header h = is_name h.name && (h.version == 1 || h.version == 2)

abbrev pub starts : Line → Bool
starts (lines.Target h) = is_header h
starts _ = false

-- the `target` line comes first, and once
abbrev pub stands_under : Option Header → Draft → Line → Bool
stands_under None d l = starts l
stands_under (Some h) d l = stands_in h.version d l

-- The rules on numbers, on the order of lines, and on roles and widths. They name again what the tests before them
-- have found: that names and words are spelled well, and that units, registers and classes are there.
abbrev pub stands : Draft → Line → Bool
stands d l = stands_under d.header d l
