use Rattle.std.proofs.Common.{◌≡◌, [], take, length}
use Rattle.std.specs.Prelude.{flat_map}
use Rattle.place_solve.specs.Choice.{needs_left, AreNogoods}
use Rattle.place_solve.proofs.Narrowing.{begun}
use Rattle.place_solve.proofs.search.+choose.Given as goal

abbrev pub decreases-choose : goal.decreases-choose
decreases-choose l = length l.left.now

abbrev pub invariant-each : goal.invariant-each
invariant-each l = record {
  known : AreNogoods l.target l.variables l.nogoods.lists;
  tried : flat_map (begun l.target (needs_left l.variables l.left) l.left) (take l.r-index l.here) ≡ [];
}
