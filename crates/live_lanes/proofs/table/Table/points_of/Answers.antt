use Rattle.std.proofs.Common.{◌≡◌, ◌<◌, ℕ, List, Some, None, length, sym, subst, arith}
use Rattle.mir_func.specs.declared.func.Block.{Block}
use Rattle.live_lanes.specs.Held.{AreUnseen, IsLastBefore, block_held, sum_below}
use Rattle.live_lanes.proofs.Summed.{block-none, sum-step, sum-end}
use Rattle.live_lanes.proofs.table.Table.points_of.Goals as goal

pub layout-preserved : goal.layout-preserved
layout-preserved c =
    let x = c.args.self.now in
    let bs : List Block = c.args.blocks.now in
    let first = c.args.own.first in
    let count = c.args.own.count in
    let rows = x.rows.rows.items in
    let held : ℕ → ℕ = block_held x bs first count in
    let last : IsLastBefore (AreUnseen rows first count) c.layout.bound (Some c.in-Some.block) = subst (IsLastBefore (AreUnseen rows first count) c.layout.bound) c.in-Some.is c.last_before.ensures in
    record {
      bound = omega (arith, last.0, c.layout.invariant.bound);
      sum = λ o r s. sum-step held (AreUnseen rows first count) c.layout.bound c.in-Some.block c.layout.total c.points_at.result c.saturating_add-total.result (sum_below held (length bs)) (λ b h. block-none x bs first count b h) last (c.layout.invariant.sum o r s) (c.points_at.ensures o r) c.saturating_add-total.ensures s;
    }

pub returns : goal.returns
returns c = λ o r few.
    let x = c.args.self.now in
    let bs : List Block = c.args.blocks.now in
    let first = c.args.own.first in
    let count = c.args.own.count in
    let rows = x.rows.rows.items in
    let held : ℕ → ℕ = block_held x bs first count in
    let gone : c.last_before.result ≡ None = c.in_default.is in
    let last : IsLastBefore (AreUnseen rows first count) c.layout.bound None = subst (IsLastBefore (AreUnseen rows first count) c.layout.bound) gone c.last_before.ensures in
    sum-end held (AreUnseen rows first count) c.layout.bound c.layout.total (sum_below held (length bs)) (λ b h. block-none x bs first count b h) last (c.layout.invariant.sum o r few)
