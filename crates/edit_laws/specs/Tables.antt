-- A table of live lanes over an edit of its function.
use Rattle.std.specs.Prelude.{◌≡◌, ℕ, Bool, true, List, Some, slice_get}
use Rattle.target_base.specs.declared.types.Target.{Target}
use Rattle.meaning.specs.Live.{Among}
use Rattle.mir_func.specs.declared.func.Block.{Block}
use Rattle.mir_func.specs.declared.func.Instr.{Instr}
use Rattle.mir_func.specs.Value.{Function}
use Rattle.mir_meaning.specs.Rules.{V8}
use Rattle.instr_effects.specs.Numbered.{number_in, KeepsNumbers}
use Rattle.live_lanes.specs.declared.table.Table.{Table}
use Rattle.live_lanes.specs.Doing.{IsComputed}
use Rattle.live_laws.specs.Effects.Coded.{KeepsRules}
use Rattle.edit_laws.specs.Codes.{TellsEdit, TellsEdits}
use Rattle.edit_laws.specs.Edits.{Edit, edited, KeepsWays, all_edited}
use Rattle.edit_laws.specs.Laws.{KeepAllWays}
use Rattle.edit_laws.specs.Kept.{code_in, IsLaidOut, KeepRows, AreRightIn}

-- A table that was computed for a function is computed for the edited one, where lanes keep the numbers that they had, it has the
-- edited function's blocks and instructions, the pieces of the lanes that the edit concerns and of those that lead to them through
-- copies are right, and all other lanes are as they were.
abbrev pub TableLaw : Type 0
TableLaw =
    (t : Target) (f : Function) (e : Edit) (x y : Table) (told : ℕ → Bool) → KeepsWays t f e → IsComputed t f x → KeepsRules t f
    → ((b : Block) (j : ℕ) (i : Instr) → Among b f.blocks → slice_get b.instrs j ≡ Some i → V8 t b j i ≡ true)
    → KeepsNumbers (number_in x.lanes) (number_in y.lanes) → TellsEdit told t f (number_in y.lanes) e → IsLaidOut t (edited f e) y
    → KeepRows told x y → AreRightIn told (code_in t (edited f e) y) y.order.slots y.rows.rows.items → IsComputed t (edited f e) y

-- the same of edits one after the other, where the table is brought up to date once, after the last
abbrev pub AllTableLaw : Type 0
AllTableLaw =
    (t : Target) (f : Function) (es : List Edit) (x y : Table) (told : ℕ → Bool) → KeepAllWays t f es → IsComputed t f x → KeepsRules t f
    → ((b : Block) (j : ℕ) (i : Instr) → Among b f.blocks → slice_get b.instrs j ≡ Some i → V8 t b j i ≡ true)
    → KeepsNumbers (number_in x.lanes) (number_in y.lanes) → TellsEdits told t f (number_in y.lanes) es → IsLaidOut t (all_edited f es) y
    → KeepRows told x y → AreRightIn told (code_in t (all_edited f es) y) y.order.slots y.rows.rows.items → IsComputed t (all_edited f es) y
