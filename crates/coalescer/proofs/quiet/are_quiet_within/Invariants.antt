use Rattle.std.proofs.Common.{◌≡◌, true, map, take}
use Rattle.std.specs.List.{list_all}
use Rattle.live_lanes.specs.Table.{begun, rises_from, seen_cell}
use Rattle.coalescer.specs.Asked.{is_quiet_writing}
use Rattle.coalescer.specs.Coalescing.{MayCoalesce}
use Rattle.coalescer.proofs.Along.{part}
use Rattle.coalescer.proofs.quiet.are_quiet_within.Given as goal

abbrev pub invariant-writings : goal.invariant-writings
invariant-writings l =
    MayCoalesce l.target l.live → rises_from l.live.table.order.slots 0 (seen_cell l.here).segments ≡ true → rises_from l.live.table.order.slots 0 (seen_cell l.there).segments ≡ true
    → list_all (part l.live.table.order.slots (is_quiet_writing l.target l.live l.pair.own l.pair.other (seen_cell l.there)) l.at) (take l.i (map begun l.here.segments.items)) ≡ true
