-- What a line that stands adds.
use Rattle.std.specs.Prelude.{ℕ, true, List, [], ◌∷◌, ◌++◌, Some, fold}
use Rattle.target_desc.specs.declared.raw.TextForm.{TextForm}
use Rattle.target_desc.specs.declared.raw.TextForm.TheVariants as text_forms
use Rattle.target_desc.specs.declared.draft.Draft.{Draft}
use Rattle.target_desc.specs.declared.draft.Options.{Options}
use Rattle.target_desc.specs.declared.draft.Line.{Line}
use Rattle.target_desc.specs.declared.draft.Line.TheVariants as lines
use Rattle.target_desc.specs.declared.names.NameTables.{NameTables}
use Rattle.word_set.specs.Words.{with_name}

-- what is opted in with this form of text
abbrev pub with_form : Options → TextForm → Options
with_form o text_forms.Offset = record o { offsets = true }
with_form o text_forms.Pool = record o { pool = true }
with_form o text_forms.Noreg = record o { noreg = true }
with_form o text_forms.Open = record o { open_blocks = true }

-- what is opted in with these words of `target-flags`, each once
abbrev pub with_flags : Options → List (List ℕ) → Options
with_flags o ws = record o { flags = fold with_name o.flags ws }

unfoldable pub added : Draft → Line → Draft
added d (lines.Target h) = record d { header = Some h }
added d (lines.Unit u) = record d { units = d.units ++ u ∷ [] }
added d (lines.Reg r) = record d { regs = d.regs ++ r ∷ [] }
added d (lines.Reserved rs) = record d { reserved = d.reserved ++ rs }
added d (lines.Index i) = record d { indexes = d.indexes ++ i ∷ [] }
added d (lines.Class c) = record d { classes = d.classes ++ c ∷ [] }
added d (lines.Mask m) = record d { masks = d.masks ++ m ∷ [] }
added d (lines.Opcode o) = record d { opcodes = d.opcodes ++ o ∷ [] }
added d (lines.Forms fs) = record d { options = fold with_form d.options fs }
added d (lines.Flags ws) = record d { options = with_flags d.options ws }

-- the names with the one that the line declares
unfoldable pub noted : NameTables → Line → NameTables
noted names (lines.Target h) = names
noted names (lines.Unit u) = record names { units = names.units ++ u.name ∷ [] }
noted names (lines.Reg r) = record names { regs = names.regs ++ r.name ∷ [] }
noted names (lines.Reserved rs) = names
noted names (lines.Index i) = record names { indexes = names.indexes ++ i.name ∷ [] }
noted names (lines.Class c) = record names { classes = names.classes ++ c.name ∷ [] }
noted names (lines.Mask m) = record names { masks = names.masks ++ m.name ∷ [] }
noted names (lines.Opcode o) = record names { opcodes = names.opcodes ++ o.name ∷ [] }
noted names (lines.Forms fs) = names
noted names (lines.Flags ws) = names
