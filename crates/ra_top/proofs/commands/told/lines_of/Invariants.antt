use Rattle.std.proofs.Common.{◌≡◌, take}
use Rattle.ra_top.specs.Commands.Told.{lines_of}
use Rattle.ra_top.proofs.commands.told.lines_of.Given as goal

-- the lines so far
abbrev pub invariant-watchers : goal.invariant-watchers
invariant-watchers g l = l.out ≡ lines_of g.W.Watcher.count g.W.Watcher.text (take l.watcher-index l.watchers)
