use Rattle.std.proofs.Common.{◌≡◌, ◌≤◌, ◌-◌, [], length}
use Rattle.std.specs.Prelude.{replicate}
use Rattle.rewriter.proofs.holders.no_holders.Given as goal

abbrev pub invariant-lists : goal.invariant-lists
invariant-lists l = record {
  same : l.made ≡ replicate (length l.made) [];
  few : length l.made ≤ l.units;
}

abbrev pub decreases-lists : goal.decreases-lists
decreases-lists l = l.units - length l.made
