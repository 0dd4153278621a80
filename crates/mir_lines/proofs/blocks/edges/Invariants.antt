use Rattle.std.proofs.Common.{◌≡◌, ◌≤◌, ◌+◌, length}
use Rattle.mir_lines.specs.Parts.{comma_parts, each}
use Rattle.mir_lines.specs.Blocks.{edge_of}
use Rattle.mir_lines.proofs.Cut.{all_onto}
use Rattle.mir_lines.proofs.blocks.edges.Given as goal

abbrev pub invariant-parts : goal.invariant-parts
invariant-parts l = record {
  few : length l.made + length l.rest ≤ length l.text;
  same : each edge_of (comma_parts l.text) ≡ all_onto l.made (each edge_of (comma_parts l.rest));
}

abbrev pub decreases-parts : goal.decreases-parts
decreases-parts l = length l.rest
