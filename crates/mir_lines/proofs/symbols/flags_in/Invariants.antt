use Rattle.std.proofs.Common.{◌≡◌, length}
use Rattle.mir_lines.specs.Parts.{comma_parts, each}
use Rattle.mir_lines.specs.Symbols.{flag_of}
use Rattle.mir_lines.proofs.Cut.{all_onto}
use Rattle.mir_lines.proofs.symbols.flags_in.Given as goal

abbrev pub invariant-parts : goal.invariant-parts
invariant-parts l = each flag_of (comma_parts l.text) ≡ all_onto l.made (each flag_of (comma_parts l.rest))

abbrev pub decreases-parts : goal.decreases-parts
decreases-parts l = length l.rest
