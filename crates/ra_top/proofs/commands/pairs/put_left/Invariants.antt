use Rattle.std.proofs.Common.{◌≡◌, ◌++◌, drop, map}
use Rattle.ra_top.specs.Commands.Pairs.{alone_lines}
use Rattle.ra_top.proofs.commands.pairs.put_left.Given as goal

abbrev pub invariant-sources : goal.invariant-sources
invariant-sources l = l.lines ++ alone_lines (map (λ v. v.func) (drop l.source-index l.left)) ≡ l.initial.lines ++ alone_lines (map (λ v. v.func) l.left)
