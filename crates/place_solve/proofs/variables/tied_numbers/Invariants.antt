use Rattle.std.proofs.Common.{◌≡◌, ◌++◌, drop}
use Rattle.bound_operands.specs.Seen.{seen_all}
use Rattle.place_solve.specs.Once.{tied_numbers}
use Rattle.place_solve.proofs.variables.tied_numbers.Given as goal

abbrev pub invariant-operands : goal.invariant-operands
invariant-operands l = l.numbers.items ++ tied_numbers (seen_all (drop l.b-index l.bound)) ≡ tied_numbers (seen_all l.bound)
