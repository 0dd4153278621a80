use Rattle.std.proofs.Common.{◌≡◌, drop}
use Rattle.std.specs.List.{list_all}
use Rattle.mir_meaning.specs.Rules.{flags_fit}
use Rattle.bound_operands.specs.Seen.{seen_all}
use Rattle.machine_verify.proofs.ties.all_flags_fit.Given as goal

abbrev pub invariant-loop-b : goal.invariant-loop-b
invariant-loop-b l = list_all flags_fit (seen_all l.bound) ≡ list_all flags_fit (seen_all (drop l.b-index l.bound))
