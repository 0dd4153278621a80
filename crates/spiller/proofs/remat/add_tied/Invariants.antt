use Rattle.std.proofs.Common.{drop}
use Rattle.std.specs.Prelude.{filter_map}
use Rattle.mir_func.specs.Binding.{explicit_bound, explicit_roles}
use Rattle.spiller.specs.Listed.{tied_own}
use Rattle.spiller.proofs.ListSteps.{TiedSoFar}
use Rattle.spiller.proofs.remat.add_tied.Given as goal

abbrev pub invariant-operands : goal.invariant-operands
invariant-operands l = TiedSoFar l.view l.definitions l.instr (filter_map (tied_own l.view.v l.instr.operands) (explicit_bound (explicit_roles l.roles) (drop l.operand-index l.instr.operands))) l.fn.readings.items l.readings.items
