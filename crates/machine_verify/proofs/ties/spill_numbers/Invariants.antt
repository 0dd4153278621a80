use Rattle.std.proofs.Common.{◌≡◌, ◌++◌, drop}
use Rattle.machine_verify.specs.Ties.{spill_numbers}
use Rattle.machine_verify.proofs.ties.spill_numbers.Given as goal

abbrev pub invariant-loop-o : goal.invariant-loop-o
invariant-loop-o l = l.made.items ++ spill_numbers (drop l.o-index l.frames) ≡ spill_numbers l.frames
