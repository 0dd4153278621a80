use Rattle.std.proofs.Common.{◌+◌, ◌∙◌, ℕ, refl, sym, arith}
use Rattle.live_lanes.specs.Ends.{row_at}
use Rattle.live_lanes.proofs.Touching.{lane-found, lane-missed, lanes-missed}
use Rattle.live_lanes.proofs.table.Table.is_some_live_at.Goals as goal

pub lanes-preserved : goal.lanes-preserved
lanes-preserved c = λ o. lane-missed (λ (l : ℕ). row_at c.args.self.now.order.slots c.args.self.now.rows.rows.items l c.args.block c.args.at) c.args.own.first c.lanes.k (c.args.own.first + c.lanes.k) refl (sym (c.is_live_at.ensures o) ∙ c.if-is_live_at.false) (c.lanes.invariant o)

pub returns-then-is_live_at : goal.returns-then-is_live_at
returns-then-is_live_at c = λ o. lane-found (λ (l : ℕ). row_at c.args.self.now.order.slots c.args.self.now.rows.rows.items l c.args.block c.args.at) c.args.own.first c.lanes.k (c.args.own.first + c.lanes.k) c.args.own.count (omega arith) refl (sym (c.is_live_at.ensures o) ∙ c.if-is_live_at.true)

pub returns : goal.returns
returns c = λ o. lanes-missed (λ (l : ℕ). row_at c.args.self.now.order.slots c.args.self.now.rows.rows.items l c.args.block c.args.at) c.args.own.first c.lanes.k c.args.own.count (omega arith) (omega arith) (c.lanes.invariant o)
