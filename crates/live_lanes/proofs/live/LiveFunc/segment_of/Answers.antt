use Rattle.std.proofs.Common.{◌≡◌, ◌∙◌, None, Some, ap, subst, sym, option_copied}
use Rattle.std.specs.Prelude.{IsTrue}
use Rattle.instr_effects.specs.Numbered.{number_in}
use Rattle.instr_effects.specs.declared.owner.Owner.TheVariants as owners
use Rattle.live_lanes.specs.Table.{Seen, rises_from, seen_cell, unseen}
use Rattle.live_lanes.specs.Entered.{rows_seen}
use Rattle.live_lanes.specs.Touching.{begun_at, begun_by}
use Rattle.live_lanes.proofs.live.LiveFunc.segment_of.Goals as goal

pub returns-in-Some-cell : goal.returns-in-Some-cell
returns-in-Some-cell c = λ o.
    let x = c.args.self.now.table in
    let n : number_in x.lanes (owners.Range c.args.v c.args.k) ≡ Some c.in-Some.lane = sym (c.of_range.ensures c.args.k) ∙ sym c.lane.ensures ∙ c.in-Some.is in
    let s : seen_cell c.in-Some-cell.cell.now ≡ rows_seen x.rows.rows.items c.in-Some.lane c.block_of.result = c.in-Some-cell.ensures in
    let up : IsTrue (rises_from x.order.slots 0 (seen_cell c.in-Some-cell.cell.now).segments) = subst (λ (w : Seen). IsTrue (rises_from x.order.slots 0 w.segments)) (sym s) (o c.in-Some.lane c.block_of.result) in
    c.segment_of.ensures up ∙ ap (λ (w : Seen). begun_by c.args.id w.segments) s ∙ ap (λ b. begun_by c.args.id (rows_seen x.rows.rows.items c.in-Some.lane b).segments) c.block_of.ensures ∙ sym (ap (λ q. begun_at x q c.args.id) n)

pub returns-in-None : goal.returns-in-None
returns-in-None c = λ o.
    let x = c.args.self.now.table in
    let n : number_in x.lanes (owners.Range c.args.v c.args.k) ≡ Some c.in-Some.lane = sym (c.of_range.ensures c.args.k) ∙ sym c.lane.ensures ∙ c.in-Some.is in
    let s : unseen ≡ rows_seen x.rows.rows.items c.in-Some.lane c.block_of.result = c.in-None.ensures in
    ap (λ (w : Seen). begun_by c.args.id w.segments) s ∙ ap (λ b. begun_by c.args.id (rows_seen x.rows.rows.items c.in-Some.lane b).segments) c.block_of.ensures ∙ sym (ap (λ q. begun_at x q c.args.id) n)
