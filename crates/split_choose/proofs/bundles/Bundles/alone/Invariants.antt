use Rattle.std.proofs.Common.{◌≡◌}
use Rattle.mir_meaning.specs.Registers.{numbers}
use Rattle.split_choose.proofs.bundles.Bundles.alone.Given as goal

abbrev pub invariant-borders : goal.invariant-borders
invariant-borders l = l.parents.items ≡ numbers 0 l.border
