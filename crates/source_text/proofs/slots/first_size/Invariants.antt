use Rattle.std.proofs.Common.{◌≡◌, drop}
use Rattle.source_text.specs.Slots.{first_size}
use Rattle.source_text.proofs.slots.first_size.Given as goal

abbrev pub invariant-sizes : goal.invariant-sizes
invariant-sizes l = first_size (drop l.s-index l.sizes) l.text ≡ first_size l.sizes l.text
