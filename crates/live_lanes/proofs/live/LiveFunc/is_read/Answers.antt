use Rattle.std.proofs.Common.{◌≡◌, ◌∙◌, Some, ap, subst, sym}
use Rattle.std.specs.Prelude.{IsTrue}
use Rattle.instr_effects.specs.Numbered.{number_in}
use Rattle.instr_effects.specs.declared.owner.Owner.TheVariants as owners
use Rattle.live_lanes.specs.Ordered.{AreRising}
use Rattle.live_lanes.specs.Table.{Seen, readings_in, rises_from, seen_cell, unseen}
use Rattle.live_lanes.specs.Entered.{rows_seen}
use Rattle.live_lanes.specs.Touching.{reading_ids, reads_lane, reads_seen}
use Rattle.live_lanes.proofs.live.LiveFunc.is_read.Goals as goal

pub returns-in-Some-cell : goal.returns-in-Some-cell
returns-in-Some-cell c = λ o q.
    let x = c.args.self.now.table in
    let n : number_in x.lanes (owners.Range c.args.v c.args.k) ≡ Some c.in-Some.lane = sym (c.of_range.ensures c.args.k) ∙ sym c.lane.ensures ∙ c.in-Some.is in
    let s : seen_cell c.in-Some-cell.cell.now ≡ rows_seen x.rows.rows.items c.in-Some.lane c.block_of-block.result = c.in-Some-cell.ensures in
    let up : IsTrue (rises_from x.order.slots 0 (seen_cell c.in-Some-cell.cell.now).segments) = subst (λ (w : Seen). IsTrue (rises_from x.order.slots 0 w.segments)) (sym s) (o c.in-Some.lane c.block_of-block.result) in
    c.is_read_in.ensures o up (λ m. subst (λ (w : Seen). AreRising x.order.slots 0 (reading_ids (readings_in w m))) (sym s) (q c.in-Some.lane c.block_of-block.result m)) ∙ ap (λ (w : Seen). reads_seen x w c.block_of-block.result c.args.id) s ∙ ap (λ b. reads_seen x (rows_seen x.rows.rows.items c.in-Some.lane b) b c.args.id) c.block_of-block.ensures ∙ sym (ap (λ l. reads_lane x l c.args.id) n)

pub returns-in-None : goal.returns-in-None
returns-in-None c = λ o q.
    let x = c.args.self.now.table in
    let n : number_in x.lanes (owners.Range c.args.v c.args.k) ≡ Some c.in-Some.lane = sym (c.of_range.ensures c.args.k) ∙ sym c.lane.ensures ∙ c.in-Some.is in
    let s : unseen ≡ rows_seen x.rows.rows.items c.in-Some.lane c.block_of-block.result = c.in-None.ensures in
    ap (λ (w : Seen). reads_seen x w c.block_of-block.result c.args.id) s ∙ ap (λ b. reads_seen x (rows_seen x.rows.rows.items c.in-Some.lane b) b c.args.id) c.block_of-block.ensures ∙ sym (ap (λ l. reads_lane x l c.args.id) n)
