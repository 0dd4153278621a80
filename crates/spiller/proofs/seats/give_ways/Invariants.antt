use Rattle.std.proofs.Common.{◌≡◌, ◌+◌, map, take}
use Rattle.std.specs.Prelude.{Option}
use Rattle.std.specs.List.{AllByRecursion}
use Rattle.mir_func.specs.Binding.{numbered}
use Rattle.mir_func.specs.declared.func.Instr.{Instr}
use Rattle.mir_meaning.specs.Places.{Variable}
use Rattle.live_lanes.specs.Touching.{FindsInstrs}
use Rattle.spiller.specs.Views.{gap_before, own_setting, planned, way_of}
use Rattle.spiller.specs.Readings.{source_in}
use Rattle.spiller.specs.Additions.{ways_given, with_addition}
use Rattle.spiller.specs.Seating.{IsGiven, read_tiny}
use Rattle.spiller.proofs.seats.give_ways.Given as goal

-- the tinies so far, with the values of those ways of reading
abbrev pub invariant-ways : goal.invariant-ways
invariant-ways l =
    let v = l.view.v in
    let f = l.view.live.now.func in
    let ps = numbered l.fn.plan.next_range (map (way_of v) (take l.way-index l.ways)) in
    record {
      tinies : l.reads.items ≡ map read_tiny ps;
      plan : FindsInstrs l.view.live.now.table f.blocks → (sources : Variable → Option Instr) → AllByRecursion (IsGiven f (source_in l.remat) l.at sources) (map (way_of v) l.ways)
          → planned l.plan ≡ with_addition (ways_given (own_setting l.view) (gap_before l.view l.at) l.at sources ps) (planned l.fn.plan);
      next : l.plan.next_range ≡ l.fn.plan.next_range + l.way-index;
    }
