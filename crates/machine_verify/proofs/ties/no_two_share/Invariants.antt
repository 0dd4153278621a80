use Rattle.std.proofs.Common.{◌≡◌, length}
use Rattle.mir_meaning.specs.Rules.{no_two_share}
use Rattle.machine_verify.proofs.ties.no_two_share.Given as goal

abbrev pub invariant-lists : goal.invariant-lists
invariant-lists l = no_two_share l.lists ≡ no_two_share l.rest

abbrev pub decreases-lists : goal.decreases-lists
decreases-lists l = length l.rest
