use Rattle.std.proofs.Common.{◌≡◌, ◌<◌, ℕ, get_or}
use Rattle.block_freq.specs.Frequencies.{entry_frequency}
use Rattle.block_freq.proofs.freqs.begin_round.Given as goal

abbrev pub invariant-layout : goal.invariant-layout
invariant-layout l = (k : ℕ) → k < l.b → get_or l.next k 0 ≡ entry_frequency k
