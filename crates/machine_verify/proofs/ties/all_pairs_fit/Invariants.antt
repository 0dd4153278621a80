use Rattle.std.proofs.Common.{◌≡◌, drop}
use Rattle.std.specs.Prelude.{filter_map}
use Rattle.std.specs.List.{list_all}
use Rattle.mir_func.specs.Binding.{tied_pair}
use Rattle.bound_operands.specs.Seen.{seen_all}
use Rattle.machine_verify.specs.Ties.{pair_fits}
use Rattle.machine_verify.proofs.ties.all_pairs_fit.Given as goal

abbrev pub invariant-loop-b : goal.invariant-loop-b
invariant-loop-b l =
    list_all (pair_fits l.target l.form l.f) (filter_map (tied_pair l.operands) (seen_all l.bound))
    ≡ list_all (pair_fits l.target l.form l.f) (filter_map (tied_pair l.operands) (seen_all (drop l.b-index l.bound)))
