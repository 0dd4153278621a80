use Rattle.std.proofs.Common.{◌≡◌, true, None, drop}
use Rattle.live_lanes.specs.Entered.{shape}
use Rattle.live_lanes.specs.Table.{rises_from, seen_cell}
use Rattle.live_lanes.specs.Lasting.{last_with, leaves_in}
use Rattle.live_lanes.proofs.compute.ends.last_exit.Given as goal

abbrev pub invariant-terminators : goal.invariant-terminators
invariant-terminators l = rises_from l.slots 0 (seen_cell l.cell).segments ≡ true → last_with (leaves_in l.slots (shape (seen_cell l.cell)) l.index) (drop l.k l.terminators) ≡ None
