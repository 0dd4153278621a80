-- Joins keep the meaning, and the form in which ranges are joined and split.
use Rattle.std.specs.Prelude.{◌≡◌, ◌&&◌, ℕ, false, List}
use Rattle.std.specs.List.{list_any}
use Rattle.target_base.specs.declared.types.Target.{Target}
use Rattle.target_base.specs.Rules.{is_copy}
use Rattle.meaning.specs.Live.{Among as Member}
use Rattle.mir_func.specs.declared.func.Instr.{Instr}
use Rattle.mir_func.specs.declared.func.Block.{Block}
use Rattle.mir_func.specs.Value.{Function}
use Rattle.mir_func.specs.Binding.{does, registers}
use Rattle.mir_meaning.specs.declared.Form.TheVariants as forms
use Rattle.mir_meaning.specs.Codes.{refines}
use Rattle.mir_meaning.specs.Valid.{IsValid}
use Rattle.live_laws.specs.Effects.Shaped.{AreClasses}
use Rattle.two_address.specs.Lowered.{lowered}
use Rattle.lowering_laws.specs.Form.{is_undef_definition, is_undef_use}
use Rattle.lowering_laws.specs.Shapes.{IsLowered}
use Rattle.live_edits.specs.declared.fold.Join.{Join}
use Rattle.live_edits.specs.Folded.{SharesWidths, TouchesNamed, folded}
use Rattle.join_laws.specs.Joined.{Joined, Joins}

-- No instruction has an `undef` definition, and none is a copy of an `undef` source: so it is in two-address form. An
-- `undef` definition of a range that goes would lose the other lanes of the range that stays.
abbrev pub HasPlainUndefs : Target → Function → Type 0
HasPlainUndefs t f =
    (b : Block) (i : Instr) → Member b f.blocks → Member i b.instrs
    → (list_any is_undef_definition (registers i.operands) ≡ false) × ((does is_copy t i && list_any is_undef_use (registers i.operands)) ≡ false)

-- a valid source behind both passes has none
abbrev pub LoweredHasPlainUndefs : Type 0
LoweredHasPlainUndefs = (t : Target) (f : Function) → IsValid t forms.Source f → HasPlainUndefs t (lowered t f)

-- the function after a join is in the form in which ranges are joined and split
abbrev pub JoinKeepsLowered : Type 0
JoinKeepsLowered =
    (t : Target) (f : Function) (id : ℕ) (j : Join) → IsLowered t f → HasPlainUndefs t f → Joins t f id j
    → IsLowered t (folded t j f) × HasPlainUndefs t (folded t j f)

-- no instruction of a valid source behind lowering names a range in `undef` uses alone
abbrev pub LoweredIsNamed : Type 0
LoweredIsNamed = (t : Target) (f : Function) → IsValid t forms.Source f → AreClasses t f → (w : ℕ) → TouchesNamed (lowered t f) w

-- where none does, none does behind a join
abbrev pub JoinKeepsNamed : Type 0
JoinKeepsNamed = (t : Target) (f : Function) (j : Join) → ((w : ℕ) → TouchesNamed f w) → (w : ℕ) → TouchesNamed (folded t j f) w

-- and does what it did
abbrev pub JoinRefines : Type 0
JoinRefines = (t : Target) (f : Function) (id : ℕ) (j : Join) → IsLowered t f → HasPlainUndefs t f → Joins t f id j → refines t f (folded t j f)

-- ranges that are joined as wholes have the same lanes
abbrev pub JoinSharesWidths : Type 0
JoinSharesWidths = (t : Target) (f : Function) (id : ℕ) (j : Join) → IsLowered t f → Joins t f id j → SharesWidths t f j

-- after all joins, one after the other, the function does what it did, in that form
abbrev pub JoinedRefines : Type 0
JoinedRefines =
    (t : Target) (freqs : List ℕ) (f g : Function) (js : List Join) → IsLowered t f → HasPlainUndefs t f → Joined t freqs f js g
    → refines t f g × IsLowered t g × HasPlainUndefs t g
