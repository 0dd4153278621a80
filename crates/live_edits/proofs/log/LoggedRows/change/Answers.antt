use Rattle.std.proofs.Common.{◌<◌, ◌∙◌, ◌++◌, ◌∷◌, [], length, refl, ap, arith}
use Rattle.live_edits.specs.CellChanges.{seen_changed}
use Rattle.live_edits.specs.declared.log.Former.TheVariants as formers
use Rattle.live_edits.proofs.Lives.{added-logged, change-logged}
use Rattle.live_edits.proofs.RenoteRows.{none-added, added-same, one-changed}
use Rattle.live_edits.proofs.PlacedCells.{placed-within, placed-descends, placed-cell, placed-back, placed-fits}
use Rattle.live_edits.proofs.log.LoggedRows.change.Goals as goal

pub returns-in_err-reserve-clause-logged : goal.returns-in_err-reserve-clause-logged
returns-in_err-reserve-clause-logged c = added-logged c.args.self.now _ (none-added c.args.self.now.rows.rows.items) c.reserve.ensures.items

pub returns-in_err-place-clause-logged : goal.returns-in_err-place-clause-logged
returns-in_err-place-clause-logged c = added-logged c.args.self.now _ c.make_in.ensures.added c.reserve.ensures.items

pub index_mut-cell-requires : goal.index_mut-cell-requires
index_mut-cell-requires c =
    let mid = c.make_in.new.rows.rows.items in
    let row = c.index_mut.result.now in
    let h : c.args.spot.lane < length mid = omega (arith, c.requires, c.make_in.ensures.added.lanes) in
    omega (arith, row.cells.ok.0, placed-within mid c.args.spot.lane c.args.spot.block c.in_ok-place.place row h c.index_mut.ensures.value c.in_ok-place.ensures.within c.in_ok-place.ensures.place)

pub invariant_of-index_mut : goal.invariant_of-index_mut
invariant_of-index_mut c =
    let mid = c.make_in.new.rows.rows.items in
    let row = c.index_mut.result.now in
    let h : c.args.spot.lane < length mid = omega (arith, c.requires, c.make_in.ensures.added.lanes) in
    record { sorted = placed-descends mid c.args.spot.lane c.args.spot.block c.in_ok-place.place row h c.index_mut.ensures.value c.in_ok-place.ensures.within c.in_ok-place.ensures.place c.index_mut-cell.result.now c.change_cell.new.cell c.index_mut-cell.ensures.value c.change_cell.ensures.block }

pub returns-in_err-back-clause-logged : goal.returns-in_err-back-clause-logged
returns-in_err-back-clause-logged c =
    let old = c.args.self.now.rows.rows.items in
    let mid = c.make_in.new.rows.rows.items in
    let row = c.index_mut.result.now in
    let h : c.args.spot.lane < length mid = omega (arith, c.requires, c.make_in.ensures.added.lanes) in
    added-logged c.args.self.now _ (added-same old mid _ c.args.spot.lane c.args.spot.block c.make_in.ensures.added (placed-cell mid c.args.spot.lane c.args.spot.block c.in_ok-place.place row h c.index_mut.ensures.value c.in_ok-place.ensures.within c.in_ok-place.ensures.place c.index_mut-cell.result.now c.change_cell.new.cell c.index_mut-cell.ensures.value c.change_cell.ensures.block _ (λ v. v) refl c.change_cell.ensures.room c.in_err-back.ensures.failed c.in_ok-place.ensures.there)) c.reserve.ensures.items

pub returns-clause-changed : goal.returns-clause-changed
returns-clause-changed c =
    let old = c.args.self.now.rows.rows.items in
    let mid = c.make_in.new.rows.rows.items in
    let row = c.index_mut.result.now in
    let h : c.args.spot.lane < length mid = omega (arith, c.requires, c.make_in.ensures.added.lanes) in
    one-changed old mid _ c.args.spot.lane c.args.spot.block (λ v. seen_changed c.args.change v) c.make_in.ensures.added (placed-cell mid c.args.spot.lane c.args.spot.block c.in_ok-place.place row h c.index_mut.ensures.value c.in_ok-place.ensures.within c.in_ok-place.ensures.place c.index_mut-cell.result.now c.change_cell.new.cell c.index_mut-cell.ensures.value c.change_cell.ensures.block _ (λ v. seen_changed c.args.change v) refl c.change_cell.ensures.room c.in_ok-back.ensures.changed c.in_ok-place.ensures.there)

pub returns-clause-logged : goal.returns-clause-logged
returns-clause-logged c =
    let mid = c.make_in.new.rows.rows.items in
    let row = c.index_mut.result.now in
    let h : c.args.spot.lane < length mid = omega (arith, c.requires, c.make_in.ensures.added.lanes) in
    let back = c.in_ok-back.back in
    change-logged c.args.self.now _ mid c.args.spot.lane c.args.spot.block c.args.change back c.make_in.ensures.added c.in_ok-place.ensures.there
    (placed-cell mid c.args.spot.lane c.args.spot.block c.in_ok-place.place row h c.index_mut.ensures.value c.in_ok-place.ensures.within c.in_ok-place.ensures.place c.index_mut-cell.result.now c.change_cell.new.cell c.index_mut-cell.ensures.value c.change_cell.ensures.block _ (seen_changed c.args.change) refl c.change_cell.ensures.room c.in_ok-back.ensures.changed c.in_ok-place.ensures.there)
    (placed-back mid c.args.spot.lane c.args.spot.block c.in_ok-place.place row h c.index_mut.ensures.value c.in_ok-place.ensures.within c.in_ok-place.ensures.place c.index_mut-cell.result.now c.change_cell.new.cell c.index_mut-cell.ensures.value c.change_cell.ensures.block _ refl back c.in_ok-back.ensures.back)
    (placed-fits mid c.args.spot.lane c.args.spot.block c.in_ok-place.place row h c.index_mut.ensures.value c.in_ok-place.ensures.within c.in_ok-place.ensures.place c.index_mut-cell.result.now c.change_cell.new.cell c.index_mut-cell.ensures.value c.change_cell.ensures.block _ refl back c.in_ok-back.ensures.fits)
    (c.in_ok-push.ensures.items ∙ ap (λ es. es ++ formers.Shape c.args.spot.lane c.args.spot.block back ∷ []) c.reserve.ensures.items)
