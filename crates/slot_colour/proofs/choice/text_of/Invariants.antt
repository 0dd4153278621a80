use Rattle.std.proofs.Common.{◌≡◌, drop}
use Rattle.std.specs.Prelude.{find, nat_eq}
use Rattle.slot_colour.proofs.choice.text_of.Given as goal

abbrev pub invariant-lines : goal.invariant-lines
invariant-lines l = find (λ d. nat_eq d.number l.n) (drop l.d-index l.declared) ≡ find (λ d. nat_eq d.number l.n) l.declared
