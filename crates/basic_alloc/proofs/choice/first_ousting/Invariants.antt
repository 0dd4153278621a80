use Rattle.std.proofs.Common.{◌≡◌, drop}
use Rattle.std.specs.Prelude.{find}
use Rattle.interference.specs.Clashes.{IsOrdered}
use Rattle.evictor.specs.Cheapest.{number, qualifies}
use Rattle.evictor.specs.Settings.{Weighs, ranking_of, setting_of, limit}
use Rattle.basic_alloc.proofs.choice.first_ousting.Given as goal

abbrev pub invariant-candidates : goal.invariant-candidates
invariant-candidates l =
    IsOrdered l.fn.view.m.now → Weighs l.fn.view.m.now.live.table l.fn.view.m.now.live.func l.fn.view.freqs.now l.fn.view.ranks.now.uses
    → l.fn.view.number ≡ number (ranking_of l.fn.view.ranks.now) l.fn.view.range
    → l.fn.view.weight ≡ limit (setting_of l.fn.view.m.now l.fn.view.freqs.now l.fn.view.ranks.now l.fn.view.range)
    → find (qualifies (setting_of l.fn.view.m.now l.fn.view.freqs.now l.fn.view.ranks.now l.fn.view.range)) (drop l.r-index l.found)
    ≡ find (qualifies (setting_of l.fn.view.m.now l.fn.view.freqs.now l.fn.view.ranks.now l.fn.view.range)) l.found
