use Rattle.std.proofs.Common.{◌≡◌, ◌++◌, true, map, take}
use Rattle.live_lanes.specs.Table.{rises_from, seen_cell}
use Rattle.live_edits.specs.Leading.{AreAlike, exit_beside}
use Rattle.live_edits.specs.Pieces.{request_of, requests_of}
use Rattle.live_edits.proofs.needs.add_terminator_exits.Given as goal

abbrev pub invariant-terminators : goal.invariant-terminators
invariant-terminators l = rises_from l.order.slots 0 (seen_cell l.cell).segments ≡ true
    → AreAlike (requests_of l.needs.items) (requests_of l.fn.needs.items ++ map (exit_beside l.order.slots (seen_cell l.cell) (request_of l.last)) (take l.id-index l.terminators))
