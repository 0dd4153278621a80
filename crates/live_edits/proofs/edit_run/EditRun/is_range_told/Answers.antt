use Rattle.std.proofs.Common.{◌∙◌, ◌+◌, ◌≤◌, arith}
use Rattle.mir_meaning.specs.Paths.{has}
use Rattle.live_edits.proofs.AsideTold.{all-told, more-told}
use Rattle.live_edits.proofs.edit_run.EditRun.is_range_told.Goals as goal

pub lanes-init : goal.lanes-init
lanes-init c = λ j l b h e. absurd (omega (arith, h))

pub lanes-preserved : goal.lanes-preserved
lanes-preserved c =
    more-told (λ n. has n c.args.ids.now.keys) c.args.self.now.rows.rows.rows.items c.of_range-own.result.first c.of_range-own.result.count c.lanes.k (c.lanes.k + 1) (omega arith) c.lanes.invariant
    (λ l e. c.is_lane_told.ensures l (c.lane.ensures ∙ e) c.if-not-is_lane_told.false)

pub returns : goal.returns
returns c = λ done k l b own.
    let past : c.of_range-own.result.count ≤ c.lanes.k = omega arith in
    all-told (λ n. has n c.args.ids.now.keys) c.args.self.now.rows.rows.rows.items c.of_range-own.result.first c.of_range-own.result.count c.lanes.k past c.lanes.invariant k l b (c.of_range-own.ensures k ∙ own)
