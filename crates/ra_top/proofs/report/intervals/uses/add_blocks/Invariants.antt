use Rattle.std.proofs.Common.{◌≡◌, ℕ, length, drop}
use Rattle.std.specs.Prelude.{slice_get, option_map}
use Rattle.ra_top.specs.Report.Intervals.Told.{with_blocks}
use Rattle.ra_top.proofs.report.intervals.uses.add_blocks.Given as goal

abbrev pub invariant-layout : goal.invariant-layout
invariant-layout l = record {
  count : length l.uses ≡ length l.fn.uses;
  each : (v : ℕ) → option_map (with_blocks (drop l.k l.freqs) v (drop l.k l.blocks)) (slice_get l.uses v) ≡ option_map (with_blocks l.freqs v l.blocks) (slice_get l.fn.uses v);
}
