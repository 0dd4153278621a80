use Rattle.std.proofs.Common.{◌≡◌, drop}
use Rattle.std.specs.Prelude.{flat_map, Some}
use Rattle.std.specs.List.{list_all}
use Rattle.mir_meaning.specs.Rules.{index_fits, index_of}
use Rattle.machine_verify.proofs.classes.all_fit.Given as goal

abbrev pub invariant-loop-o : goal.invariant-loop-o
invariant-loop-o l =
    list_all (λ x. index_fits l.target l.f l.loc (Some x)) (flat_map index_of l.operands)
    ≡ list_all (λ x. index_fits l.target l.f l.loc (Some x)) (flat_map index_of (drop l.o-index l.operands))
