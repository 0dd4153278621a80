use Rattle.std.proofs.Common.{ℕ, Bool, ◌∙◌}
use Rattle.live_lanes.specs.Ordered.{ids_of}
use Rattle.live_lanes.specs.Held.{any_held}
use Rattle.live_lanes.proofs.Tallied.{count-start, count-held, count-none, count-end}
use Rattle.live_lanes.proofs.table.Table.points_in.Goals as goal

pub spans-init : goal.spans-init
spans-init c = λ o r.
    let slots = c.args.self.now.order.slots in
    let test : ℕ → Bool = any_held slots c.args.self.now.rows.rows.items c.args.own.first c.args.own.count c.args.block in
    count-start slots test (ids_of c.args.instrs.now)

pub spans-preserved-then-span : goal.spans-preserved-then-span
spans-preserved-then-span c = λ o r.
    let slots = c.args.self.now.order.slots in
    let test : ℕ → Bool = any_held slots c.args.self.now.rows.rows.items c.args.own.first c.args.own.count c.args.block in
    count-held slots test (ids_of c.args.instrs.now) c.spans.at c.span-span.result.end c.spans.count c.points_between.result c.saturating_add-count.result c.span-span.ensures.further (λ x a b. (c.span-span.ensures.span o).same x a b ∙ c.if-span.true) (c.spans.invariant o r) (c.points_between.ensures.between r) (c.points_between.ensures.few r) c.saturating_add-count.ensures

pub returns : goal.returns
returns c = λ o r.
    let slots = c.args.self.now.order.slots in
    let test : ℕ → Bool = any_held slots c.args.self.now.rows.rows.items c.args.own.first c.args.own.count c.args.block in
    count-end slots test (ids_of c.args.instrs.now) c.spans.at c.spans.count r c.spans-test.false (c.spans.invariant o r)
