use Rattle.std.proofs.Common.{◌≡◌, ◌++◌, ◌+◌, ◌∙◌, ℕ, take, List, refl, sym, ap, subst}
use Rattle.std.specs.Prelude.{flat_map}
use Rattle.live_lanes.specs.Table.{Seen, piece_at, rises_from}
use Rattle.live_lanes.specs.Growth.{piece_in_rows}
use Rattle.live_edits.specs.declared.cells.Note.{Note}
use Rattle.live_edits.specs.declared.pieces.PieceSpot.{PieceSpot}
use Rattle.live_edits.specs.Leading.{AreAlike}
use Rattle.live_edits.specs.Pieces.{nodes_of}
use Rattle.live_edits.specs.Runs.{both_sides}
use Rattle.live_edits.proofs.RunSides.{sides-more}
use Rattle.live_edits.proofs.edit_run.EditRun.add_suspects.Goals as goal

pub notes-preserved : goal.notes-preserved
notes-preserved c = λ rise.
    let slots = c.args.self.now.draft.order.slots in
    let rows = c.args.self.now.rows.rows.rows.items in
    let l = c.args.cell.now.lane in
    let b = c.args.cell.now.block in
    let k = c.notes.note-index in
    let from = nodes_of c.args.spots.now.items in
    let to = nodes_of c.add_new-in-notes.new.spots.items in
    let value = c.as_slice-note-items.ensures.value in
    let seen = c.find-near.ensures.seen in
    let rises = ap (λ (v : Seen). rises_from slots 0 v.segments) seen ∙ rise l b in
    let entry = c.entry_rank-entry.result in
    let exit = c.exit_rank-exit.result in
    let before : c.index_at.result ≡ piece_in_rows slots rows l b entry = c.index_at.ensures rises ∙ ap (λ (v : Seen). piece_at slots entry v.segments) seen in
    let behind : c.index_at-in-notes.result ≡ piece_in_rows slots rows l b exit = c.index_at-in-notes.ensures rises ∙ ap (λ (v : Seen). piece_at slots exit v.segments) seen in
    let spot : ℕ → PieceSpot = λ i. record { lane = l; block = b; index = i; near = c.find-near.result.0 } in
    subst (λ (ns : List Note). AreAlike to (from ++ flat_map (both_sides slots rows l b) (take (k + 1) ns))) value
    (sides-more slots rows l b from c.notes.spots.items c.add_new.new.spots.items c.add_new-in-notes.new.spots.items c.as_slice-note-items.result.now k _ entry exit (spot c.index_at.result) (spot c.index_at-in-notes.result) c.notes-test.true c.entry_rank-entry.ensures c.exit_rank-exit.ensures refl refl before refl refl behind
    (subst (λ (ns : List Note). AreAlike (nodes_of c.notes.spots.items) (from ++ flat_map (both_sides slots rows l b) (take k ns))) (sym value) (c.notes.invariant rise)) c.in_ok-add_new.ensures c.in_ok-add_new-2.ensures)
