use Rattle.std.proofs.Common.{◌≡◌, drop}
use Rattle.std.specs.List.{list_all}
use Rattle.mir_func.specs.Binding.{numbered}
use Rattle.mir_meaning.specs.Rules.{early_fits}
use Rattle.bound_operands.specs.Seen.{seen_all}
use Rattle.machine_verify.proofs.ties.all_early_fit.Given as goal

abbrev pub invariant-loop-number : goal.invariant-loop-number
invariant-loop-number l =
    list_all (early_fits l.target l.f (seen_all l.bound)) (numbered 0 (seen_all l.bound))
    ≡ list_all (early_fits l.target l.f (seen_all l.bound)) (numbered l.number (seen_all (drop l.number l.bound)))
