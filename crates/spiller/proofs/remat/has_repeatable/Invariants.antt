use Rattle.std.proofs.Common.{◌≡◌, ℕ, Some, true, false, take}
use Rattle.std.specs.Prelude.{slice_get}
use Rattle.live_lanes.specs.Touching.{FindsInstrs}
use Rattle.mir_func.specs.declared.func.Block.{Block}
use Rattle.mir_func.specs.declared.func.Instr.{Instr}
use Rattle.mir_func.specs.Binding.{does}
use Rattle.mir_meaning.specs.Paths.{has}
use Rattle.spiller.specs.Rematerialised.{is_constant}
use Rattle.spiller.proofs.remat.has_repeatable.Given as goal

-- none of those so far is a constant
abbrev pub invariant-touched : goal.invariant-touched
invariant-touched l =
    FindsInstrs l.view.live.now.table l.view.live.now.func.blocks → (p j : ℕ) (b : Block) (i : Instr) → slice_get l.view.live.now.func.blocks p ≡ Some b → slice_get b.instrs j ≡ Some i → has i.id (take l.id-index l.touched) ≡ true
    → does is_constant l.view.target.now i ≡ false
