use Rattle.std.proofs.Common.{◌≤◌, length}
use Rattle.mir_lines.specs.Registers.{words_at}
use Rattle.mir_lines.proofs.Listed.{WordsGo}
use Rattle.mir_lines.proofs.registers.take_words.Given as goal

abbrev pub invariant-words : goal.invariant-words
invariant-words l = record {
  within : length l.rest ≤ length l.text;
  go : WordsGo (words_at l.text) l.words l.rest;
}

abbrev pub decreases-words : goal.decreases-words
decreases-words l = length l.rest
