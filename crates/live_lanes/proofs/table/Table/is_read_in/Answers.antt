use Rattle.std.proofs.Common.{◌≡◌, ◌∙◌, List, ap, subst, sym}
use Rattle.std.specs.Prelude.{find, nat_eq}
use Rattle.live_lanes.specs.declared.row.LaneUse.{LaneUse}
use Rattle.live_lanes.specs.Ordered.{AreRising}
use Rattle.live_lanes.specs.Table.{entry_rank, piece_at, readings_in, seen_cell}
use Rattle.live_lanes.specs.Touching.{is_counted, reading_ids}
use Rattle.live_lanes.proofs.Readings.{piece-reads, piece_reads}
use Rattle.live_lanes.proofs.table.Table.is_read_in.Goals as goal

pub returns-in-Some-reading_of : goal.returns-in-Some-reading_of
returns-in-Some-reading_of c = λ o r up.
    let x = c.args.self.now in
    let cell = c.args.cell.now in
    let at = c.piece_at.ensures.piece r ∙ ap (λ n. piece_at x.order.slots n (seen_cell cell).segments) c.entry_rank.ensures in
    let rs : c.in-Some.piece.now.readings.items ≡ readings_in (seen_cell cell) (piece_at x.order.slots (entry_rank x.order.slots c.args.id) (seen_cell cell).segments) = ap piece_reads c.in-Some.ensures ∙ piece-reads cell c.piece_at.result ∙ ap (readings_in (seen_cell cell)) at in
    let rise : AreRising x.order.slots 0 (reading_ids c.in-Some.piece.now.readings.items) = subst (λ ys. AreRising x.order.slots 0 (reading_ids ys)) (sym rs) (up (piece_at x.order.slots (entry_rank x.order.slots c.args.id) (seen_cell cell).segments)) in
    c.counts.ensures o ∙ ap (is_counted x c.args.block) (c.in-Some-reading_of.ensures rise ∙ ap (λ (ys : List LaneUse). find (λ r. nat_eq r.id c.args.id) ys) rs)

pub returns-in-None : goal.returns-in-None
returns-in-None c = λ o r up.
    let x = c.args.self.now in
    let cell = c.args.cell.now in
    let at = c.piece_at.ensures.piece r ∙ ap (λ n. piece_at x.order.slots n (seen_cell cell).segments) c.entry_rank.ensures in
    let rs : c.in-Some.piece.now.readings.items ≡ readings_in (seen_cell cell) (piece_at x.order.slots (entry_rank x.order.slots c.args.id) (seen_cell cell).segments) = ap piece_reads c.in-Some.ensures ∙ piece-reads cell c.piece_at.result ∙ ap (readings_in (seen_cell cell)) at in
    let rise : AreRising x.order.slots 0 (reading_ids c.in-Some.piece.now.readings.items) = subst (λ ys. AreRising x.order.slots 0 (reading_ids ys)) (sym rs) (up (piece_at x.order.slots (entry_rank x.order.slots c.args.id) (seen_cell cell).segments)) in
    ap (is_counted x c.args.block) (c.in-None.ensures rise ∙ ap (λ (ys : List LaneUse). find (λ r. nat_eq r.id c.args.id) ys) rs)
