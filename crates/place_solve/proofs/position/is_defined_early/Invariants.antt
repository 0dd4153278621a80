use Rattle.std.proofs.Common.{◌≡◌, drop}
use Rattle.std.specs.List.{list_any}
use Rattle.mir_func.specs.Binding.{definitions}
use Rattle.place_solve.specs.Positions.{defines_early}
use Rattle.place_solve.proofs.position.is_defined_early.Given as goal

abbrev pub invariant-each : goal.invariant-each
invariant-each l = list_any (defines_early l.target l.u) (definitions l.left (drop l.o-index l.operands)) ≡ list_any (defines_early l.target l.u) (definitions l.roles l.operands)
