use Rattle.std.proofs.Common.{refl, true}
use Rattle.live_lanes.specs.Table.{read_at_end, seen_in}
use Rattle.live_lanes.proofs.Cells.{change-descends, change-seen}
use Rattle.live_lanes.proofs.row.LaneRange.read_last.Goals as goal

pub invariant_of-self : goal.invariant_of-self
invariant_of-self c =
    let x = c.index_mut.result.now in
    record { sorted = change-descends c.args.block c.make_behind.new.self.cells.items c.in_ok-place.place x (record x { is_read_last = true }) c.make_behind.new.self.sorted c.in_ok-place.ensures.within c.in_ok-place.ensures.there c.index_mut.ensures.value refl }

pub returns : goal.returns
returns c =
    let x = c.index_mut.result.now in
    change-seen c.args.block c.make_behind.new.self.cells.items c.in_ok-place.place x (record x { is_read_last = true }) c.make_behind.new.self.sorted c.in_ok-place.ensures.within c.in_ok-place.ensures.there c.index_mut.ensures.value refl read_at_end (seen_in c.args.self.now.cells.items) c.in_ok-place.ensures.same refl
