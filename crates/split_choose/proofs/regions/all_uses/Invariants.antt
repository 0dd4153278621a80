use Rattle.std.proofs.Common.{◌≡◌, take}
use Rattle.split_choose.specs.Regions.{capped, uses_of}
use Rattle.split_choose.proofs.regions.all_uses.Given as goal

abbrev pub invariant-spans : goal.invariant-spans
invariant-spans l = l.sum ≡ capped (uses_of (take l.span-index l.spans))
