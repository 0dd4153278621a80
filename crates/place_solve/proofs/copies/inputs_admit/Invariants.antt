use Rattle.std.proofs.Common.{◌≡◌, drop}
use Rattle.std.specs.List.{list_all}
use Rattle.live_lanes.specs.Looks.{InOrder}
use Rattle.place_solve.specs.Copies.{input_fits}
use Rattle.place_solve.proofs.copies.inputs_admit.Given as goal

abbrev pub invariant-each : goal.invariant-each
invariant-each l = InOrder l.live.table → list_all (input_fits l.live.target l.live.func l.live.table l.id) (drop l.o-index l.inputs) ≡ list_all (input_fits l.live.target l.live.func l.live.table l.id) l.inputs
