use Rattle.std.proofs.Common.{◌≡◌, ◌<◌, ℕ, length, get_or, take}
use Rattle.block_freq.specs.Frequencies.{next_frequency}
use Rattle.block_freq.proofs.freqs.take_round.Given as goal

abbrev pub invariant-edges : goal.invariant-edges
invariant-edges l = (b : ℕ) → b < length l.next → get_or l.next b 0 ≡ next_frequency (take l.e-index l.edges) l.last b
