use Rattle.std.proofs.Common.{◌≡◌, take}
use Rattle.spiller.specs.RangeSlots.{numbers_with_classes}
use Rattle.rewriter.proofs.allocated.numbers_of.Given as goal

abbrev pub invariant-each : goal.invariant-each
invariant-each l = l.made.items ≡ numbers_with_classes (take l.s-index l.slots)
