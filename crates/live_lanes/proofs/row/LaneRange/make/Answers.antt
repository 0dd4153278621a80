use Rattle.std.proofs.Common.{◌∙◌, sym}
use Rattle.std.specs.Prelude.{is_ok}
use Rattle.live_lanes.proofs.Cells.{there-found, put-descends, put-there, put-same, put-kept, put-rooms}
use Rattle.live_lanes.proofs.row.LaneRange.make.Goals as goal

pub returns-then-has_at-clause-within : goal.returns-then-has_at-clause-within
returns-then-has_at-clause-within c =
    (there-found c.args.block c.args.self.now.cells.items c.place_near-at.result c.args.self.now.sorted c.place_near-at.ensures.place (sym c.has_at.ensures ∙ c.if-has_at.true)).0

pub returns-then-has_at-clause-there : goal.returns-then-has_at-clause-there
returns-then-has_at-clause-there c =
    (there-found c.args.block c.args.self.now.cells.items c.place_near-at.result c.args.self.now.sorted c.place_near-at.ensures.place (sym c.has_at.ensures ∙ c.if-has_at.true)).1

pub invariant_of-self : goal.invariant_of-self
invariant_of-self c = record {
  sorted = put-descends c.args.block c.args.self.now.cells.items c.place_near-at.result c.new.result c.args.self.now.sorted c.place_near-at.ensures.place (sym c.has_at.ensures ∙ c.if-has_at.false) c.new.ensures.block (is_ok c.insert_one.result) c.insert_one.new.list.items c.insert_one.ensures.items;
}

pub returns-clause-there : goal.returns-clause-there
returns-clause-there c =
    (put-there c.args.block c.args.self.now.cells.items c.place_near-at.result c.new.result c.args.self.now.sorted c.place_near-at.ensures.place (sym c.has_at.ensures ∙ c.if-has_at.false) c.new.ensures.block c.insert_one.new.list.items c.in_ok-insert_one.ensures.items).1

pub returns-clause-same : goal.returns-clause-same
returns-clause-same c =
    put-same c.args.block c.args.self.now.cells.items c.place_near-at.result c.new.result c.args.self.now.sorted c.place_near-at.ensures.place (sym c.has_at.ensures ∙ c.if-has_at.false) c.new.ensures.block c.new.ensures.unseen c.insert_one.new.list.items c.in_ok-insert_one.ensures.items

pub returns-clause-kept : goal.returns-clause-kept
returns-clause-kept c =
    put-kept c.args.block c.args.self.now.cells.items c.place_near-at.result c.new.result c.args.self.now.sorted c.place_near-at.ensures.place (sym c.has_at.ensures ∙ c.if-has_at.false) c.new.ensures.block c.insert_one.new.list.items c.in_ok-insert_one.ensures.items

pub returns-clause-rooms : goal.returns-clause-rooms
returns-clause-rooms c =
    put-rooms c.args.block c.args.self.now.cells.items c.place_near-at.result c.new.result c.args.self.now.sorted c.place_near-at.ensures.place (sym c.has_at.ensures ∙ c.if-has_at.false) c.new.ensures.block c.insert_one.new.list.items c.in_ok-insert_one.ensures.items
