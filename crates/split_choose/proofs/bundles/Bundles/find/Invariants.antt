use Rattle.std.proofs.Common.{◌≡◌, ◌-◌, length}
use Rattle.split_choose.specs.Bundles.{above, root_of}
use Rattle.split_choose.proofs.bundles.Bundles.find.Given as goal

abbrev pub invariant-parents : goal.invariant-parents
invariant-parents l = above l.self.parents.items (length l.self.parents.items - l.counter) l.at ≡ root_of l.self.parents.items l.border
