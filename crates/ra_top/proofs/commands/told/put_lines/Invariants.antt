use Rattle.std.proofs.Common.{◌≡◌, ◌++◌}
use Rattle.ra_top.specs.Commands.Told.{first_lines}
use Rattle.ra_top.proofs.commands.told.put_lines.Given as goal

abbrev pub invariant-lines : goal.invariant-lines
invariant-lines g l = l.out ≡ l.fn.out ++ first_lines (g.W.Watcher.text l.watcher) l.k
