use Rattle.std.proofs.Common.{◌≡◌, ◌<◌, ◌-◌, ◌∙◌, List, length, get_or, sym, ap, subst}
use Rattle.std.specs.Prelude.{option_copied}
use Rattle.live_lanes.specs.declared.row.DefPiece.{DefPiece}
use Rattle.live_lanes.specs.Entered.{rows_seen}
use Rattle.live_lanes.specs.Table.{seen, seen_cell}
use Rattle.live_edits.proofs.ToldPieces.{start-there}
use Rattle.live_edits.proofs.changed.start_at.Goals as goal

pub returns : goal.returns
returns c =
    let spot = c.args.spot.now in
    let v = rows_seen c.args.rows.now.rows.items spot.lane spot.block in
    let cell = c.in_ok-cell.cell.now in
    let own : seen_cell cell ≡ v = sym (ap (λ o. seen (option_copied o)) c.in_ok-cell.was) ∙ c.cell_near.ensures in
    let segment = c.in_ok-segment.segment.now in
    let found = c.in_ok-segment.ensures.lookup in
    let less = subst (λ (xs : List DefPiece). spot.index - 1 < length xs) c.deref.ensures.value found.3.0 in
    let at = subst (λ (xs : List DefPiece). segment ≡ get_or xs (spot.index - 1) segment) c.deref.ensures.value found.1 in
    start-there v spot.index cell segment own c.if-spot-eq0.false less at
