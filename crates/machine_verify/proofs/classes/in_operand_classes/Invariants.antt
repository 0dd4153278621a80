use Rattle.std.proofs.Common.{◌≡◌, drop}
use Rattle.std.specs.List.{list_all}
use Rattle.mir_meaning.specs.Rules.{in_operand_class}
use Rattle.bound_operands.specs.Seen.{seen_all}
use Rattle.machine_verify.proofs.classes.in_operand_classes.Given as goal

abbrev pub invariant-loop-b : goal.invariant-loop-b
invariant-loop-b l = list_all (in_operand_class l.target l.f l.effect) (seen_all l.bound) ≡ list_all (in_operand_class l.target l.f l.effect) (seen_all (drop l.b-index l.bound))
