use Rattle.std.proofs.Common.{◌≡◌, drop}
use Rattle.target_desc.specs.Resolving.{units_named}
use Rattle.target_desc.proofs.Onto.{onto}
use Rattle.target_desc.proofs.resolve.units_named.Given as goal

abbrev pub invariant-loop-word : goal.invariant-loop-word
invariant-loop-word l = units_named l.names l.words ≡ onto l.made (units_named l.names (drop l.word-index l.words))
