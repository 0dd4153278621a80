use Rattle.std.proofs.Common.{◌∙◌, ◌≡◌, sym, ap, subst, false, true}
use Rattle.live_lanes.specs.Graph.{is_live}
use Rattle.live_lanes.specs.Table.{with_cause, seen_in, seen_cell, cause_in, piece_at, rises_from}
use Rattle.live_lanes.proofs.Cells.{change-descends, change-seen, cell-seen}
use Rattle.live_lanes.proofs.Raised.{raise-done}
use Rattle.live_lanes.proofs.row.LaneRange.raise.Goals as goal

pub invariant_of-self : goal.invariant_of-self
invariant_of-self c = record {
  sorted = change-descends c.args.block c.make.new.self.cells.items c.in_ok-place.place c.index_mut.result.now c.set_cause.new.self c.make.new.self.sorted c.in_ok-place.ensures.within c.in_ok-place.ensures.there c.index_mut.ensures.value c.set_cause.ensures.block;
}

pub returns : goal.returns
returns c = λ rises.
    let old = c.args.self.now.cells.items in
    let cells = c.make.new.self.cells.items in
    let v = seen_in old c.args.block in
    let one : seen_cell c.index.result.now ≡ v = cell-seen c.args.block cells c.in_ok-place.place c.index.result.now c.in_ok-place.ensures.within c.in_ok-place.ensures.there c.index.ensures ∙ c.in_ok-place.ensures.same c.args.block in
    let two : seen_cell c.index-2.result.now ≡ v = cell-seen c.args.block cells c.in_ok-place.place c.index-2.result.now c.in_ok-place.ensures.within c.in_ok-place.ensures.there c.index-2.ensures ∙ c.in_ok-place.ensures.same c.args.block in
    let n = c.piece_at-index.result in
    let at : n ≡ piece_at c.args.slots.now c.args.at v.segments = c.piece_at-index.ensures.piece (ap (λ w. rises_from c.args.slots.now 0 w.segments) one ∙ rises) ∙ ap (λ w. piece_at c.args.slots.now c.args.at w.segments) one in
    let dead : is_live (cause_in v n) ≡ false = sym (c.is_live.ensures ∙ ap (λ w. is_live (cause_in w n)) two) ∙ c.if-is_live.false in
    raise-done c.args.slots.now old _ c.args.block c.args.at c.args.cause n at dead (change-seen c.args.block cells c.in_ok-place.place c.index_mut.result.now c.set_cause.new.self c.make.new.self.sorted c.in_ok-place.ensures.within c.in_ok-place.ensures.there c.index_mut.ensures.value c.set_cause.ensures.block (λ w. with_cause w n c.args.cause) (seen_in old) c.in_ok-place.ensures.same c.set_cause.ensures.changed)
