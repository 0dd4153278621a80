-- Behind a spill a range that an instruction names counts there.
use Rattle.std.specs.Prelude.{◌≡◌, ◌&&◌, ℕ, true, false, List, Option}
use Rattle.std.specs.List.{list_any}
use Rattle.target_base.specs.declared.types.Role.{Role}
use Rattle.target_base.specs.declared.types.Target.{Target}
use Rattle.target_base.specs.Rules.{is_copy}
use Rattle.meaning.specs.Live.{Among as Member}
use Rattle.mir_func.specs.declared.func.RegOp.{RegOp}
use Rattle.mir_func.specs.declared.func.Operand.TheVariants as operands
use Rattle.mir_func.specs.declared.func.Instr.{Instr}
use Rattle.mir_func.specs.declared.func.Block.{Block}
use Rattle.mir_func.specs.Value.{Function}
use Rattle.mir_func.specs.Binding.{bound, does, is_virtual, registers}
use Rattle.mir_meaning.specs.declared.Form.TheVariants as forms
use Rattle.mir_meaning.specs.Rules.{is_free_undef}
use Rattle.mir_meaning.specs.Valid.{IsValid}
use Rattle.live_laws.specs.Effects.Shaped.{AreClasses}
use Rattle.two_address.specs.Lowered.{lowered}
use Rattle.lowering_laws.specs.Form.{is_undef_definition, is_undef_use}
use Rattle.lowering_laws.specs.Named.{TouchesItsRanges}
use Rattle.lowering_laws.specs.Shapes.{IsLowered}
use Rattle.spiller.specs.Slots.{Slots}
use Rattle.spiller.specs.Spilled.{IsSpilled}
use Rattle.spill_laws.specs.Laws.{AreLowered}

-- Each `undef` use that isn't tied is a physical register, as lowering leaves it.
abbrev pub HasFixedUndefs : Target → Function → Type 0
HasFixedUndefs t f =
    (b : Block) (i : Instr) → Member b f.blocks → Member i b.instrs → (r : Option Role) (o : RegOp) → Member (r, operands.Reg o) (bound t i) → is_free_undef (r, operands.Reg o) ≡ true
    → is_virtual o.loc ≡ false

-- Lowering leaves a valid source so, where the classes are the target's.
abbrev pub LoweredHasFixedUndefs : Type 0
LoweredHasFixedUndefs = (t : Target) (f : Function) → IsValid t forms.Source f → AreClasses t f → HasFixedUndefs t (lowered t f)

-- Where it is so, it is so behind a spill, and no instruction there names a range in `undef` uses alone.
abbrev pub SpillKeepsNamed : Type 0
SpillKeepsNamed =
    (t : Target) (f g : Function) (slots new : Slots) (v : ℕ) (made : List (ℕ × ℕ)) → IsLowered t f → AreLowered t f → HasFixedUndefs t f → IsSpilled t f slots v g new made
    → HasFixedUndefs t g × ((b : Block) (i : Instr) → Member b g.blocks → Member i b.instrs → TouchesItsRanges i)

-- No instruction in lowered form has an `undef` definition, and none is a copy of an `undef` source.
abbrev pub FormHasPlainUndefs : Type 0
FormHasPlainUndefs =
    (t : Target) (f : Function) → AreLowered t f → (b : Block) (i : Instr) → Member b f.blocks → Member i b.instrs
    → (list_any is_undef_definition (registers i.operands) ≡ false) × ((does is_copy t i && list_any is_undef_use (registers i.operands)) ≡ false)
