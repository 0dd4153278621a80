use Rattle.std.proofs.Common.{◌≡◌, drop}
use Rattle.std.specs.Prelude.{◌&&◌, not, nat_lt}
use Rattle.std.specs.List.{list_all}
use Rattle.evictor.specs.Settings.{ranking_of}
use Rattle.evictor.specs.Cheapest.{is_tiny, cascade}
use Rattle.evictor.proofs.choice.all_may_lose.Given as goal

abbrev pub invariant-victims : goal.invariant-victims
invariant-victims l =
    list_all (λ w. not (is_tiny (ranking_of l.fn.view.ranks.now) w) && nat_lt (cascade (ranking_of l.fn.view.ranks.now) w) l.fn.view.number) (drop l.w-index l.victims)
    ≡ list_all (λ w. not (is_tiny (ranking_of l.fn.view.ranks.now) w) && nat_lt (cascade (ranking_of l.fn.view.ranks.now) w) l.fn.view.number) l.victims
