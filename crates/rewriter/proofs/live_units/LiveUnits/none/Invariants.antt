use Rattle.std.proofs.Common.{◌≡◌, ◌≤◌, ◌-◌, length, false}
use Rattle.std.specs.Prelude.{replicate}
use Rattle.rewriter.proofs.live_units.LiveUnits.none.Given as goal

abbrev pub invariant-rows : goal.invariant-rows
invariant-rows l = record {
  same : l.made ≡ replicate (length l.made) (replicate l.units false);
  few : length l.made ≤ l.blocks;
}

abbrev pub decreases-rows : goal.decreases-rows
decreases-rows l = l.blocks - length l.made
