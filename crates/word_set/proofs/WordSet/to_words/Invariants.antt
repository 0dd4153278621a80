use Rattle.std.proofs.Common.{◌≡◌, take, map}
use Rattle.word_set.proofs.WordSet.to_words.Given as goal

abbrev pub invariant-loop-word : goal.invariant-loop-word
invariant-loop-word l = l.made ≡ map (λ v. v.items) (take l.word-index l.word-items)
