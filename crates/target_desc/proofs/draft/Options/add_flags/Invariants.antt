use Rattle.std.proofs.Common.{◌≡◌, take}
use Rattle.target_desc.specs.Adding.{with_flags}
use Rattle.target_desc.proofs.draft.Options.add_flags.Given as goal

abbrev pub invariant-loop-word : goal.invariant-loop-word
invariant-loop-word l = l.self ≡ with_flags l.fn.self (take l.word-index l.words)
