use Rattle.std.proofs.Common.{rules, tests, ℕ, ap, ◌∙◌, nat_eq, arith}
use Rattle.std.specs.List.{list_any}
use Rattle.std.proofs.lemmas.Iterator.{YieldsList-from_slice}
use Rattle.std.proofs.lemmas.Iterator.Search.{any_from_yields_List}
use Rattle.std.proofs.lemmas.List.{length-map}
use Rattle.live_lanes.specs.Table.{begun, exit_rank, piece_at, seen_cell}
use Rattle.live_edits.proofs.Held.{exit-leads}
use Rattle.live_edits.proofs.fall.has_exit.Goals as goal

pub returns : goal.returns
returns c = λ rise.
    let slots = c.args.order.now.slots in
    let v = seen_cell c.args.cell.now in
    let spot = c.args.spot in
    let lies = λ (id : ℕ). nat_eq (piece_at slots (exit_rank slots id) v.segments) spot.index in
    let any = any_from_yields_List lies _ _ c.any.result c.any.ensures.ran (YieldsList-from_slice c.terminators-ids.result.now (cc)) (λ x b q k. search (rules, tests)) in
    exit-leads slots c.args.flow.now v spot.block spot.index c.any.result (λ e. c.if-len-spot.false (omega (arith, e, c.len.ensures, length-map c.args.cell.now.segments.items begun))) (any ∙ ap (list_any lies) c.terminators-ids.ensures)
