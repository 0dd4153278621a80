use Rattle.std.proofs.Common.{◌≡◌, ◌≤◌, length}
use Rattle.target_desc.specs.Text.{words}
use Rattle.target_desc.proofs.text.next_word.Given as goal

abbrev pub invariant-parts : goal.invariant-parts
invariant-parts l = record {
  same : words l.line ≡ words l.rest;
  shorter : length l.rest ≤ length l.line;
}

abbrev pub decreases-parts : goal.decreases-parts
decreases-parts l = length l.rest
