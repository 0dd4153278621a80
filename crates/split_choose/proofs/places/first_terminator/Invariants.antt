use Rattle.std.proofs.Common.{◌≡◌, true, drop, ◌≤◌, length}
use Rattle.std.specs.List.{list_all}
use Rattle.mir_func.specs.Binding.{does, is_terminator}
use Rattle.split_choose.proofs.places.first_terminator.Given as goal

abbrev pub invariant-ends : goal.invariant-ends
invariant-ends l = record { within : l.first ≤ length l.instrs; ended : list_all (does is_terminator l.target) (drop l.first l.instrs) ≡ true }

abbrev pub decreases-ends : goal.decreases-ends
decreases-ends l = l.first
