use Rattle.std.proofs.Common.{◌≤◌, ◌+◌, length}
use Rattle.mir_lines.specs.Reads.{onto}
use Rattle.mir_lines.specs.Instructions.{elements_at}
use Rattle.mir_lines.proofs.Listed.{ElementsGo}
use Rattle.mir_lines.proofs.instructions.take_elements.Given as goal

abbrev pub invariant-elements : goal.invariant-elements
invariant-elements l = record {
  within : length l.rest ≤ length l.text;
  few : length l.made + length l.rest ≤ length l.fn.before + length l.text;
  go : ElementsGo l.options l.part (onto l.fn.before (elements_at l.options l.part l.text)) l.made l.rest;
}

abbrev pub decreases-elements : goal.decreases-elements
decreases-elements l = length l.rest
