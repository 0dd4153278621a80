use Rattle.std.proofs.Common.{◌≡◌, drop}
use Rattle.std.specs.List.{list_any}
use Rattle.mir_meaning.specs.Rules.{is_early_definition}
use Rattle.bound_operands.specs.Seen.{seen_all}
use Rattle.machine_verify.proofs.ties.has_early_definition.Given as goal

abbrev pub invariant-loop-b : goal.invariant-loop-b
invariant-loop-b l = list_any is_early_definition (seen_all l.bound) ≡ list_any is_early_definition (seen_all (drop l.b-index l.bound))
