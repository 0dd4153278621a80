use Rattle.std.proofs.Common.{◌≡◌, length}
use Rattle.mir_meaning.specs.Rules.{contains}
use Rattle.machine_verify.proofs.blocks.contains.Given as goal

abbrev pub invariant-text : goal.invariant-text
invariant-text l = contains l.text l.word ≡ contains l.rest l.word

abbrev pub decreases-text : goal.decreases-text
decreases-text l = length l.rest
