use Rattle.std.proofs.Common.{◌≡◌, ◌++◌, drop}
use Rattle.split_choose.specs.Nets.{arcs_of}
use Rattle.split_choose.proofs.nets.arcs_of.Given as goal

abbrev pub invariant-rows : goal.invariant-rows
invariant-rows l = l.arcs ++ arcs_of (drop l.row-index l.rows) ≡ arcs_of l.rows
