use Rattle.split_choose.specs.Bundles.{AreEarlier, SameRoots}
use Rattle.split_choose.proofs.bundles.Bundles.shorten.Given as goal

abbrev pub invariant-borders : goal.invariant-borders
invariant-borders l = record {
  earlier : AreEarlier l.fn.self.parents.items → AreEarlier l.self.parents.items;
  same : AreEarlier l.fn.self.parents.items → SameRoots l.fn.self.parents.items l.self.parents.items;
}
