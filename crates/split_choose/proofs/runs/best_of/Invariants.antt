use Rattle.std.proofs.Common.{ℕ, List, length}
use Rattle.split_choose.specs.LongRuns.{IsLocal, IsBestRun, near_in}
use Rattle.split_choose.proofs.runs.best_of.Given as goal

abbrev pub invariant-registers : goal.invariant-registers
invariant-registers l = (parents freqs : List ℕ) → IsLocal l.view.m.now l.view.v parents freqs l.view.places.now l.view.spans.now
    → IsBestRun (near_in l.view.m.now l.view.v parents) (length l.view.places.now) l.registers l.register-index l.best
