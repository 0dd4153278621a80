use Rattle.std.proofs.Common.{take}
use Rattle.std.specs.Prelude.{IfSome}
use Rattle.evictor.specs.Settings.{Weighs, IsWeighed, weight_in}
use Rattle.evictor.proofs.Evicted.{IsCost}
use Rattle.evictor.proofs.choice.cost_of.Given as goal

abbrev pub invariant-victims : goal.invariant-victims
invariant-victims l =
    Weighs l.fn.view.m.now.live.table l.fn.view.m.now.live.func l.fn.view.freqs.now l.fn.view.ranks.now.uses
    → IfSome l.known (IsWeighed l.fn.view.m.now l.fn.view.freqs.now)
    → IsCost l.fn.view.weight (weight_in l.fn.view.m.now l.fn.view.freqs.now) (take l.w-index l.victims) l.cost
