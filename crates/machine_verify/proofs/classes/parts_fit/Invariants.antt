use Rattle.std.proofs.Common.{◌≡◌, length}
use Rattle.mir_meaning.specs.Rules.{parts_fit}
use Rattle.machine_verify.proofs.classes.parts_fit.Given as goal

abbrev pub invariant-parts : goal.invariant-parts
invariant-parts l = parts_fit l.target l.f l.d l.operands ≡ parts_fit l.target l.f l.d l.rest

abbrev pub decreases-parts : goal.decreases-parts
decreases-parts l = length l.rest
