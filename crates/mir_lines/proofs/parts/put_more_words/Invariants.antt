use Rattle.std.proofs.Common.{◌≡◌, ◌++◌, drop, codes}
use Rattle.std.specs.List.{flat_map}
use Rattle.mir_lines.proofs.parts.put_more_words.Given as goal

-- what is written, and what is left to write, are the whole
abbrev pub invariant-loop-word : goal.invariant-loop-word
invariant-loop-word l = l.made ++ flat_map (λ w. l.separator ++ w) (drop l.word-index l.words) ≡ l.fn.made ++ flat_map (λ w. l.separator ++ w) l.words
