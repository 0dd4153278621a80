use Rattle.std.proofs.Common.{◌≡◌, take}
use Rattle.watchers.proofs.pressure.copied_all.Given as goal

abbrev pub invariant-given : goal.invariant-given
invariant-given l = l.made.items ≡ take l.g-index l.given
