use Rattle.std.proofs.Common.{◌≡◌, take, false}
use Rattle.interference.specs.Clashes.{IsOrdered}
use Rattle.split_choose.specs.Spans.{AreStretches, is_held_in}
use Rattle.split_choose.proofs.spans.is_held_in.Given as goal

abbrev pub invariant-stretches : goal.invariant-stretches
invariant-stretches l = IsOrdered l.m → AreStretches l.stretches → is_held_in l.m l.v l.position (take l.at-index l.stretches) l.u ≡ false
