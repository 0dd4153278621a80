use Rattle.std.proofs.Common.{◌≡◌, ap, ◌∙◌}
use Rattle.live_lanes.specs.Graph.{is_live}
use Rattle.live_lanes.specs.Table.{exit_rank, cause_in, piece_at, rises_from, seen_cell}
use Rattle.live_lanes.specs.Entered.{shape, rows_seen, causes}
use Rattle.live_lanes.specs.Lasting.{piece_of, shapes}
use Rattle.live_lanes.proofs.Lasting.{piece-shape}
use Rattle.live_lanes.proofs.table.LaneRanges.is_live_after.Goals as goal

pub returns-in-Some : goal.returns-in-Some
returns-in-Some c = λ r.
    let slots = c.args.order.now.slots in
    let rows = c.args.self.now.rows.items in
    let v = seen_cell c.in-Some.cell.now in
    let seen : v ≡ rows_seen rows c.args.lane c.args.block = c.in-Some.ensures in
    let at : c.piece_at.result ≡ piece_of slots (exit_rank slots c.args.id) (shapes rows c.args.lane c.args.block) =
    c.piece_at.ensures.piece (ap (λ w. rises_from slots 0 w.segments) seen ∙ r c.args.lane c.args.block) ∙ ap (λ m. piece_at slots m v.segments) c.exit_rank.ensures ∙ piece-shape slots (exit_rank slots c.args.id) v
    ∙ ap (λ w. piece_of slots (exit_rank slots c.args.id) (shape w)) seen in
    c.is_live.ensures ∙ ap (λ w. is_live (cause_in w c.piece_at.result)) seen ∙ ap (λ n. is_live (causes rows c.args.lane c.args.block n)) at
