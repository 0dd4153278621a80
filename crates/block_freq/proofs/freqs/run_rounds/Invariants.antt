use Rattle.std.proofs.Common.{◌≡◌}
use Rattle.block_freq.specs.Frequencies.{rounds}
use Rattle.block_freq.proofs.freqs.run_rounds.Given as goal

abbrev pub invariant-rounds : goal.invariant-rounds
invariant-rounds l = l.last ≡ rounds l.edges l.k l.fn.last
