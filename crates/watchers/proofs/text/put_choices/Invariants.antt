use Rattle.std.proofs.Common.{◌≡◌, ◌++◌, drop}
use Rattle.watchers.specs.Lines.{choices_text}
use Rattle.watchers.proofs.text.put_choices.Given as goal

-- what is written, and what is left to write, are the whole
abbrev pub invariant-written : goal.invariant-written
invariant-written l = l.out ++ choices_text l.target (drop l.c-index l.choices) ≡ l.fn.out ++ choices_text l.target l.choices
