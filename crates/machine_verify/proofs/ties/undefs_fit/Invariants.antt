use Rattle.std.proofs.Common.{◌≡◌, drop}
use Rattle.std.specs.Prelude.{filter}
use Rattle.std.specs.List.{list_all}
use Rattle.mir_meaning.specs.Rules.{undef_fits}
use Rattle.machine_verify.proofs.ties.undefs_fit.Given as goal

abbrev pub invariant-loop-d : goal.invariant-loop-d
invariant-loop-d l = list_all (undef_fits l.form l.named) (filter (λ o. o.def) l.named) ≡ list_all (undef_fits l.form l.named) (filter (λ o. o.def) (drop l.d-index l.named))
