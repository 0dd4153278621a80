use Rattle.std.proofs.Common.{◌≡◌, ℕ, length, drop}
use Rattle.std.specs.Prelude.{slice_get, option_map}
use Rattle.ra_top.specs.Report.Intervals.Told.{with_instrs}
use Rattle.ra_top.proofs.report.intervals.uses.add_instrs.Given as goal

abbrev pub invariant-list : goal.invariant-list
invariant-list l = record {
  count : length l.uses ≡ length l.fn.uses;
  each : (v : ℕ) → option_map (with_instrs l.freq v (drop l.instr-index l.instrs)) (slice_get l.uses v) ≡ option_map (with_instrs l.freq v l.instrs) (slice_get l.fn.uses v);
}
