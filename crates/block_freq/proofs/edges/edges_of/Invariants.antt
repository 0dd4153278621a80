use Rattle.std.proofs.Common.{◌≡◌, ◌++◌, drop}
use Rattle.block_freq.specs.Frequencies.{edges_after, all_edges}
use Rattle.block_freq.proofs.edges.edges_of.Given as goal

abbrev pub invariant-layout : goal.invariant-layout
invariant-layout l = l.edges.items ++ edges_after l.blocks l.k (drop l.k l.blocks) ≡ all_edges l.blocks
