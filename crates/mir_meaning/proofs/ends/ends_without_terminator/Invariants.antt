use Rattle.std.proofs.Common.{◌≡◌, length}
use Rattle.mir_meaning.specs.Codes.{ends_without_terminator}
use Rattle.mir_meaning.proofs.ends.ends_without_terminator.Given as goal

abbrev pub invariant-loop-rest : goal.invariant-loop-rest
invariant-loop-rest l = ends_without_terminator l.target l.rest ≡ ends_without_terminator l.target l.initial.rest

abbrev pub decreases-loop-rest : goal.decreases-loop-rest
decreases-loop-rest l = length l.rest
