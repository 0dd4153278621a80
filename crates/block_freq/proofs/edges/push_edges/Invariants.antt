use Rattle.std.proofs.Common.{◌≡◌, ◌++◌, take}
use Rattle.block_freq.specs.Frequencies.{edges_from}
use Rattle.block_freq.proofs.edges.push_edges.Given as goal

abbrev pub invariant-successors : goal.invariant-successors
invariant-successors l = l.edges.items ≡ l.fn.edges.items ++ edges_from l.blocks l.from (take l.e-index l.successors)
