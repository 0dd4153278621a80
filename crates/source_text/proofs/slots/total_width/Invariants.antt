use Rattle.std.proofs.Common.{◌≡◌, ◌≤◌, ◌+◌, ◌*◌, drop, sum}
use Rattle.target_base.specs.Storage.{widths}
use Rattle.source_text.proofs.slots.total_width.Given as goal

abbrev pub invariant-units : goal.invariant-units
invariant-units l = record {
  bound : l.total ≤ 255 * l.u-index;
  same : sum (widths l.units l.us) ≡ l.total + sum (widths l.units (drop l.u-index l.us));
}
