use Rattle.std.proofs.Common.{◌≡◌, length}
use Rattle.mir_lines.specs.Parts.{comma_parts, each}
use Rattle.mir_lines.specs.Blocks.{livein_of}
use Rattle.mir_lines.proofs.Cut.{all_onto}
use Rattle.mir_lines.proofs.blocks.names.Given as goal

abbrev pub invariant-parts : goal.invariant-parts
invariant-parts l = each livein_of (comma_parts l.text) ≡ all_onto l.made (each livein_of (comma_parts l.rest))

abbrev pub decreases-parts : goal.decreases-parts
decreases-parts l = length l.rest
