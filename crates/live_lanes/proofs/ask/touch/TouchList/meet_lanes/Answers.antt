use Rattle.std.proofs.Common.{◌≡◌, ◌+◌, refl, subst, arith}
use Rattle.std.specs.List.{list_any}
use Rattle.live_lanes.specs.Touching.{Meets, names_cell, names_lane, some_below}
use Rattle.live_lanes.proofs.Touching.{meets-none, meets-lane}
use Rattle.live_lanes.proofs.ask.touch.TouchList.meet_lanes.Goals as goal

pub lanes-init : goal.lanes-init
lanes-init c = meets-none c.args.table.now.order.slots c.args.self.now _ (λ x. refl)

pub lanes-preserved : goal.lanes-preserved
lanes-preserved c =
    let rows = c.args.table.now.rows.rows.items in
    let next : Meets c.args.table.now.order.slots c.lanes.self c.meet_lane.new.self (λ x. names_lane x rows (c.args.own.first + c.lanes.k)) = subst (λ cs. Meets c.args.table.now.order.slots c.lanes.self c.meet_lane.new.self (λ x. list_any (names_cell x) cs)) c.cells.ensures c.in_ok-meet_lane.ensures in
    meets-lane c.args.table.now.order.slots c.args.self.now c.lanes.self c.meet_lane.new.self (λ x l. names_lane x rows l) c.args.own.first c.lanes.k (c.args.own.first + c.lanes.k) refl c.lanes.invariant next

pub returns : goal.returns
returns c =
    let all : c.lanes.k ≡ c.args.own.count = omega arith in
    subst (λ n. Meets c.args.table.now.order.slots c.args.self.now c.lanes.self (λ x. some_below (λ l. names_lane x c.args.table.now.rows.rows.items l) c.args.own.first n)) all c.lanes.invariant
