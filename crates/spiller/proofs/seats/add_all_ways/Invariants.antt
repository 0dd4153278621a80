use Rattle.std.proofs.Common.{◌≡◌, ◌++◌, flat_map, map, take}
use Rattle.mir_meaning.specs.Places.{each_once}
use Rattle.spiller.specs.Views.{way_of}
use Rattle.spiller.specs.Additions.{own_uses}
use Rattle.spiller.proofs.seats.add_all_ways.Given as goal

-- the ways by the instructions so far
abbrev pub invariant-instrs : goal.invariant-instrs
invariant-instrs l =
    let v = l.view.v in
    let before = map (way_of v) l.fn.ways.items in
    map (way_of v) l.ways.items ≡ before ++ each_once before (flat_map (own_uses l.view.target.now l.view.live.now.func v) (take l.instr-index l.instrs))
