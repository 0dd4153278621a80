use Rattle.std.proofs.Common.{◌≡◌, ◌++◌, drop, map}
use Rattle.source_text.specs.Slots.{size_of}
use Rattle.source_text.proofs.slots.sizes_of.Given as goal

abbrev pub invariant-each : goal.invariant-each
invariant-each l = l.made.items ++ map (size_of l.target) (drop l.class-index l.classes) ≡ map (size_of l.target) l.classes
