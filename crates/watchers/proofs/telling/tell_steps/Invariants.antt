use Rattle.std.proofs.Common.{take}
use Rattle.watchers.specs.Told.{AllTold}
use Rattle.watchers.proofs.telling.tell_steps.Given as goal

-- the first steps were told
abbrev pub invariant-steps : goal.invariant-steps
invariant-steps g l = AllTold (g.W.Watcher.next l.target) (take l.step-index l.step-items) l.fn.watchers.items l.watchers.items
