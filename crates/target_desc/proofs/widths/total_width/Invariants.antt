use Rattle.std.proofs.Common.{◌≡◌, ◌≤◌, ◌+◌, ◌*◌, drop, sum}
use Rattle.target_base.specs.Storage.{widths}
use Rattle.target_desc.proofs.widths.total_width.Given as goal

abbrev pub invariant-loop-u : goal.invariant-loop-u
invariant-loop-u l = record {
  bound : l.total ≤ 255 * l.u-index;
  same : sum (widths l.units l.us) ≡ l.total + sum (widths l.units (drop l.u-index l.us));
}
