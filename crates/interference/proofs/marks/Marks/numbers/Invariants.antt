use Rattle.std.proofs.Common.{◌≡◌, ◌*◌, min}
use Rattle.std.specs.Prelude.{filter}
use Rattle.mir_meaning.specs.Registers.{numbers}
use Rattle.interference.specs.Marked.{is_marked}
use Rattle.interference.proofs.marks.Marks.numbers.Given as goal

-- the numbers of the words so far
abbrev pub invariant-words : goal.invariant-words
invariant-words l = record {
  first : l.first ≡ min (64 * l.word-index) 4294967295;
  found : l.numbers.items ≡ filter (is_marked l.self.words.items) (numbers 0 (64 * l.word-index));
}
