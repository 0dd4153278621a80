use Rattle.std.proofs.Common.{◌≡◌, map, take, drop, ◌++◌}
use Rattle.watchers.proofs.telling.tell_all.Given as goal

-- the first were told, and the others stand as they were
abbrev pub invariant-watchers : goal.invariant-watchers
invariant-watchers g l =
    l.watcher-items ≡ map (λ w. g.W.Watcher.next l.target w l.step) (take l.watcher-index l.fn.watchers.items) ++ drop l.watcher-index l.fn.watchers.items
