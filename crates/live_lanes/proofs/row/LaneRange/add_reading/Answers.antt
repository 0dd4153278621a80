use Rattle.live_lanes.specs.Table.{with_reading, seen_in}
use Rattle.live_lanes.proofs.Cells.{change-descends, change-seen}
use Rattle.live_lanes.proofs.Raised.{on-ok}
use Rattle.live_lanes.proofs.row.LaneRange.add_reading.Goals as goal

pub invariant_of-self : goal.invariant_of-self
invariant_of-self c = record {
  sorted = change-descends c.args.block c.make_behind.new.self.cells.items c.in_ok-place.place c.index_mut.result.now c.add_reading.new.self c.make_behind.new.self.sorted c.in_ok-place.ensures.within c.in_ok-place.ensures.there c.index_mut.ensures.value c.add_reading.ensures.block;
}

pub returns : goal.returns
returns c =
    on-ok c.add_reading.result c.add_reading.ensures.added (λ e. change-seen c.args.block c.make_behind.new.self.cells.items c.in_ok-place.place c.index_mut.result.now c.add_reading.new.self c.make_behind.new.self.sorted c.in_ok-place.ensures.within c.in_ok-place.ensures.there c.index_mut.ensures.value c.add_reading.ensures.block (with_reading c.args.reading) (seen_in c.args.self.now.cells.items) c.in_ok-place.ensures.same e)
