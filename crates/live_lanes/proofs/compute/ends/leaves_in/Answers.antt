use Rattle.std.proofs.Common.{ap, ◌∙◌}
use Rattle.std.specs.Prelude.{nat_eq}
use Rattle.live_lanes.specs.Table.{exit_rank, piece_at, seen_cell}
use Rattle.live_lanes.proofs.Lasting.{piece-shape}
use Rattle.live_lanes.proofs.compute.ends.leaves_in.Goals as goal

pub returns : goal.returns
returns c = λ r.
    let slots = c.args.slots.now in
    let v = seen_cell c.args.cell.now in
    ap (λ n. nat_eq n c.args.index) (c.piece_at.ensures.piece r ∙ ap (λ m. piece_at slots m v.segments) c.exit_rank.ensures ∙ piece-shape slots (exit_rank slots c.args.id) v)
