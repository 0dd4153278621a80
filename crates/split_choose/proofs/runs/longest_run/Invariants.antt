use Rattle.std.proofs.Common.{◌≡◌, ℕ, ◌-◌, ◌≤◌, length, List}
use Rattle.split_choose.specs.LongRuns.{IsLocal, IsLongestRun, near_in}
use Rattle.split_choose.proofs.Longest.{IsTail}
use Rattle.split_choose.proofs.runs.longest_run.Given as goal

abbrev pub invariant-places : goal.invariant-places
invariant-places l = record {
  most : l.most ≡ length l.view.places.now - 1;
  len : (parents freqs : List ℕ) → IsLocal l.view.m.now l.view.v parents freqs l.view.places.now l.view.spans.now → 2 ≤ length l.view.places.now
      → IsTail (near_in l.view.m.now l.view.v parents l.register) (length l.view.places.now) l.k l.len;
  best : (parents freqs : List ℕ) → IsLocal l.view.m.now l.view.v parents freqs l.view.places.now l.view.spans.now
      → IsLongestRun (near_in l.view.m.now l.view.v parents l.register) (length l.view.places.now) l.k l.register l.best;
}
