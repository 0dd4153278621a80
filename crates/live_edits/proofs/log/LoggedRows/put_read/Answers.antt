use Rattle.std.proofs.Common.{◌<◌, ◌∙◌, ◌++◌, ◌∷◌, [], length, refl, ap, arith}
use Rattle.live_edits.specs.CellChanges.{reading_added}
use Rattle.live_edits.specs.declared.log.Former.TheVariants as formers
use Rattle.live_edits.proofs.Lives.{added-logged, read-logged}
use Rattle.live_edits.proofs.RenoteRows.{added-same, one-changed}
use Rattle.live_edits.proofs.PlacedCells.{placed-within, placed-descends, placed-cell}
use Rattle.live_edits.proofs.log.LoggedRows.put_read.Goals as goal

pub returns-in_err-place-clause-logged : goal.returns-in_err-place-clause-logged
returns-in_err-place-clause-logged c = added-logged c.args.self.now _ c.make_in.ensures.added c.reserve.ensures.items

pub index_mut-cell-requires : goal.index_mut-cell-requires
index_mut-cell-requires c =
    let mid = c.make_in.new.rows.rows.items in
    let row = c.index_mut.result.now in
    let h : c.args.spot.lane < length mid = omega (arith, c.requires, c.make_in.ensures.added.lanes) in
    omega (arith, row.cells.ok.0, placed-within mid c.args.spot.lane c.args.spot.block c.in_ok-place.place row h c.index_mut.ensures.value c.in_ok-place.ensures.within c.in_ok-place.ensures.place)

pub invariant_of-index_mut : goal.invariant_of-index_mut
invariant_of-index_mut c =
    let mid = c.make_in.new.rows.rows.items in
    let row = c.index_mut.result.now in
    let h : c.args.spot.lane < length mid = omega (arith, c.requires, c.make_in.ensures.added.lanes) in
    record { sorted = placed-descends mid c.args.spot.lane c.args.spot.block c.in_ok-place.place row h c.index_mut.ensures.value c.in_ok-place.ensures.within c.in_ok-place.ensures.place c.index_mut-cell.result.now c.put_reading.new.cell c.index_mut-cell.ensures.value c.put_reading.ensures.block }

pub returns-in_err-put_reading-clause-logged : goal.returns-in_err-put_reading-clause-logged
returns-in_err-put_reading-clause-logged c =
    let old = c.args.self.now.rows.rows.items in
    let mid = c.make_in.new.rows.rows.items in
    let row = c.index_mut.result.now in
    let spot = c.args.spot in
    let h : spot.lane < length mid = omega (arith, c.requires, c.make_in.ensures.added.lanes) in
    added-logged c.args.self.now _ (added-same old mid _ spot.lane spot.block c.make_in.ensures.added (placed-cell mid spot.lane spot.block c.in_ok-place.place row h c.index_mut.ensures.value c.in_ok-place.ensures.within c.in_ok-place.ensures.place c.index_mut-cell.result.now c.put_reading.new.cell c.index_mut-cell.ensures.value c.put_reading.ensures.block _ (λ v. v) refl c.put_reading.ensures.room c.in_err-put_reading.ensures.failed c.in_ok-place.ensures.there)) c.reserve.ensures.items

pub returns-clause-changed : goal.returns-clause-changed
returns-clause-changed c =
    let old = c.args.self.now.rows.rows.items in
    let mid = c.make_in.new.rows.rows.items in
    let row = c.index_mut.result.now in
    let spot = c.args.spot in
    let h : spot.lane < length mid = omega (arith, c.requires, c.make_in.ensures.added.lanes) in
    one-changed old mid _ spot.lane spot.block (λ v. reading_added spot.index c.args.at c.args.reading v) c.make_in.ensures.added (placed-cell mid spot.lane spot.block c.in_ok-place.place row h c.index_mut.ensures.value c.in_ok-place.ensures.within c.in_ok-place.ensures.place c.index_mut-cell.result.now c.put_reading.new.cell c.index_mut-cell.ensures.value c.put_reading.ensures.block _ (λ v. reading_added spot.index c.args.at c.args.reading v) refl c.put_reading.ensures.room c.in_ok-put_reading.ensures.put c.in_ok-place.ensures.there)

pub returns-clause-logged : goal.returns-clause-logged
returns-clause-logged c =
    let old = c.args.self.now.rows.rows.items in
    let mid = c.make_in.new.rows.rows.items in
    let row = c.index_mut.result.now in
    let spot = c.args.spot in
    let h : spot.lane < length mid = omega (arith, c.requires, c.make_in.ensures.added.lanes) in
    read-logged c.args.self.now _ mid spot c.args.at c.args.reading c.make_in.ensures.added c.in_ok-place.ensures.there (placed-cell mid spot.lane spot.block c.in_ok-place.place row h c.index_mut.ensures.value c.in_ok-place.ensures.within c.in_ok-place.ensures.place c.index_mut-cell.result.now c.put_reading.new.cell c.index_mut-cell.ensures.value c.put_reading.ensures.block _ (λ v. reading_added spot.index c.args.at c.args.reading v) refl c.put_reading.ensures.room c.in_ok-put_reading.ensures.put c.in_ok-place.ensures.there) (c.in_ok-push.ensures.items ∙ ap (λ es. es ++ formers.Read spot c.args.at ∷ []) c.reserve.ensures.items)
