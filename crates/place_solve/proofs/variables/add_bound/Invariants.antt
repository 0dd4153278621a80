use Rattle.std.proofs.Common.{◌≡◌, drop, map}
use Rattle.std.specs.List.{filter_map}
use Rattle.mir_func.specs.Binding.{numbered}
use Rattle.bound_operands.specs.Seen.{seen_all}
use Rattle.place_solve.specs.Choice.{need_of}
use Rattle.place_solve.specs.Once.{all_once, numbered_variable}
use Rattle.place_solve.proofs.variables.add_bound.Given as goal

abbrev pub invariant-each : goal.invariant-each
invariant-each l =
    all_once (map need_of l.variables.items) (filter_map (numbered_variable l.target l.f (seen_all l.bound)) (numbered l.k (seen_all (drop l.k l.bound))))
    ≡ all_once (map need_of l.fn.variables.items) (filter_map (numbered_variable l.target l.f (seen_all l.bound)) (numbered 0 (seen_all l.bound)))
