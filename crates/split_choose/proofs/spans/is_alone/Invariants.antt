use Rattle.std.proofs.Common.{◌≡◌, take, false}
use Rattle.std.specs.List.{list_any}
use Rattle.target_base.specs.Registers.{units_of}
use Rattle.interference.specs.Clashes.{IsOrdered}
use Rattle.split_choose.specs.Spans.{AreStretches, is_held_in}
use Rattle.split_choose.proofs.spans.is_alone.Given as goal

abbrev pub invariant-units : goal.invariant-units
invariant-units l = IsOrdered l.m → AreStretches l.stretches → list_any (is_held_in l.m l.v l.position l.stretches) (take l.u-index (units_of l.m.live.target l.fn.r)) ≡ false
