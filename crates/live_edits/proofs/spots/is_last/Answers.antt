use Rattle.std.proofs.Common.{◌-◌, length, get_or, refl, sym, ◌∙◌}
use Rattle.live_edits.specs.declared.pieces.PieceSpot.{PieceSpot}
use Rattle.live_edits.proofs.SpotLists.{last-within, same-among}
use Rattle.live_edits.proofs.spots.is_last.Goals as goal

pub returns : goal.returns
returns c = λ e.
    let spots = c.args.spots.now in
    let none : PieceSpot = record { lane = 0; block = 0; index = 0; near = 0 } in
    let k = length spots - 1 in
    same-among spots k (get_or spots k none) c.args.spot none (last-within (length spots) c.if-count-eq0.false) refl (sym c.is_same.ensures ∙ e)
