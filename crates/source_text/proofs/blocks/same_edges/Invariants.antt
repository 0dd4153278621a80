use Rattle.std.proofs.Common.{◌≡◌, drop}
use Rattle.mir_meaning.specs.Agreement.{all_alike}
use Rattle.source_text.specs.Blocks.{same_edge}
use Rattle.source_text.proofs.blocks.same_edges.Given as goal

abbrev pub invariant-edges : goal.invariant-edges
invariant-edges l = all_alike same_edge (drop l.e-index l.edges) l.left ≡ all_alike same_edge l.edges l.others
