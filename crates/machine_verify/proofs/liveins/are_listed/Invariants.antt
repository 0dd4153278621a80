use Rattle.std.proofs.Common.{◌≡◌, ◌-◌}
use Rattle.std.specs.Prelude.{◌||◌, not}
use Rattle.std.specs.List.{list_all}
use Rattle.mir_meaning.specs.Registers.{numbers, has_number}
use Rattle.machine_verify.specs.Liveins.{is_set}
use Rattle.machine_verify.proofs.liveins.are_listed.Given as goal

abbrev pub invariant-units : goal.invariant-units
invariant-units l = list_all (λ u. not (is_set l.live u) || has_number l.listed u) (numbers 0 l.count) ≡ list_all (λ u. not (is_set l.live u) || has_number l.listed u) (numbers l.u (l.count - l.u))
