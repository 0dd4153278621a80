use Rattle.std.proofs.Common.{◌≡◌, drop}
use Rattle.std.specs.List.{list_all}
use Rattle.split_choose.specs.Nets.{is_small_arc}
use Rattle.split_choose.proofs.nets.are_small_arcs.Given as goal

abbrev pub invariant-arcs : goal.invariant-arcs
invariant-arcs l = list_all (is_small_arc l.nodes) (drop l.arc-index l.arcs) ≡ list_all (is_small_arc l.nodes) l.arcs
