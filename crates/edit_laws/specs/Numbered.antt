-- What an edit leaves of a function's instructions one by one: the numbers of the slots that they name, and that erased ones are plain.
use Rattle.std.specs.Prelude.{◌≡◌, ℕ, true, List, [], Some}
use Rattle.target_base.specs.declared.types.Target.{Target}
use Rattle.mir_func.specs.declared.func.Operand.{Operand}
use Rattle.mir_func.specs.Value.{Function}
use Rattle.mir_func.specs.Binding.{slot_at}
use Rattle.mir_meaning.specs.Paths.{has}
use Rattle.instr_effects.specs.declared.lanes.LaneTable.{LaneTable}
use Rattle.instr_effects.specs.Numbered.{HasSlot, NumbersAll}
use Rattle.instr_effects.specs.Steps.{Numbering}
use Rattle.edit_laws.specs.Deferred.{all_deferred, all_deleted, all_gone, TouchesEdits}
use Rattle.edit_laws.specs.Edits.{Edit, Put, Replace, Erase, edited, KeepsWays}
use Rattle.edit_laws.specs.Reasons.{Touched}

-- the slot that operands store to or reload has numbers
abbrev pub NamesSlot : LaneTable → List Operand → Type 0
NamesSlot tab os = (s : ℕ) → slot_at os 1 ≡ Some s → HasSlot tab s

-- so has that of the edited instruction
abbrev pub NumbersEdit : LaneTable → Edit → Type 0
NumbersEdit tab (Put gap op os) = NamesSlot tab os
NumbersEdit tab (Replace id op os) = NamesSlot tab os
NumbersEdit tab (Erase id) = Unit {0}

-- a table that numbers all lanes of a function does so of the edited one, where it numbers those of the slot that comes
abbrev pub NumbersEditLaw : Type 0
NumbersEditLaw = (t : Target) (f : Function) (e : Edit) (tab : LaneTable) → NumbersAll t f tab → NumbersEdit tab e → NumbersAll t (edited f e) tab

-- Instructions that edits erase are neither phis nor terminators, so that they may be deleted after all other edits.
abbrev pub ErasedPlainLaw : Type 0
ErasedPlainLaw =
    (touched : Touched) (t : Target) (f : Function) (num : Numbering) (es : List Edit) → TouchesEdits touched t f num es
    → (id : ℕ) → has id (all_gone [] es) ≡ true → (ids : List ℕ) → KeepsWays t (all_deleted (all_deferred f es) ids) (Erase id)
