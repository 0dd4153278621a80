use Rattle.std.proofs.Common.{◌≡◌, take}
use Rattle.target_base.proofs.boxed.BoxedListCopied.copied.Given as goal

abbrev pub invariant-loop-x : goal.invariant-loop-x
invariant-loop-x g l = l.made ≡ take l.x-index l.x-items
