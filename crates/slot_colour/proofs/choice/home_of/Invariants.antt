use Rattle.std.proofs.Common.{◌≡◌, drop}
use Rattle.std.specs.Prelude.{find, nat_eq}
use Rattle.slot_colour.proofs.choice.home_of.Given as goal

abbrev pub invariant-slots : goal.invariant-slots
invariant-slots l = find (λ r. nat_eq r.number l.n) (drop l.r-index l.taken) ≡ find (λ r. nat_eq r.number l.n) l.taken
