use Rattle.std.proofs.Common.{◌≡◌, ◌<◌, ◌+◌, ◌^◌, take}
use Rattle.std.specs.List.{filter_map}
use Rattle.interference.specs.Clashes.{IsOrdered}
use Rattle.evictor.specs.Settings.{Weighs, setting_of, eviction_at, costs_less}
use Rattle.evictor.proofs.Tops.{top}
use Rattle.evictor.proofs.choice.cheapest_of.Given as goal

abbrev pub invariant-candidates : goal.invariant-candidates
invariant-candidates l =
    IsOrdered l.fn.m → Weighs l.fn.m.live.table l.fn.m.live.func l.fn.freqs l.fn.ranks.uses → l.fn.ranks.greatest + 1 < 2 ^ 32
    → l.best ≡ top costs_less (filter_map (eviction_at (setting_of l.fn.m l.fn.freqs l.fn.ranks l.fn.v)) (take l.r-index l.fn.found))
