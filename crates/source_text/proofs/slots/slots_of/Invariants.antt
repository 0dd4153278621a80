use Rattle.std.proofs.Common.{◌≡◌, [], drop}
use Rattle.source_text.specs.Slots.{slots_behind}
use Rattle.source_text.proofs.slots.slots_of.Given as goal

abbrev pub invariant-objects : goal.invariant-objects
invariant-objects l = slots_behind l.made.items l.sizes (drop l.o-index l.objects) l.left ≡ slots_behind [] l.sizes l.objects l.text
