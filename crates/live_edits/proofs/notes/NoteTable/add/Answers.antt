use Rattle.std.proofs.Common.{◌≡◌, ◌∙◌, Some, sym, ap, subst, refl}
use Rattle.std.specs.Prelude.{slice_get}
use Rattle.std.specs.Vec.{with_item}
use Rattle.std.proofs.lemmas.Result.{on_ok_weaker}
use Rattle.live_edits.specs.declared.cells.CellNotes.{CellNotes}
use Rattle.live_edits.specs.declared.notes.NoteTable.{NoteTable}
use Rattle.live_edits.specs.NotedTable.{HasNote}
use Rattle.live_edits.proofs.NotedLists.{some-same, got-here}
use Rattle.live_edits.proofs.NotedTable.{note-added, note-noted, note-filled, note-table, adds-both}
use Rattle.live_edits.proofs.notes.NoteTable.add.Goals as goal

-- the list of the lane in the block, before and after

abbrev changed : (c : goal.After-self-1) → CellNotes
changed c = record { lane = c.index_mut.result.now.lane; block = c.index_mut.result.now.block; notes = c.add_note.new.notes }

abbrev after : (c : goal.After-self-1) → NoteTable
after c = record { all = with_item c.place.new.self.all c.in_ok-place.place (changed c); places = c.place.new.self.places }

stands : (c : goal.After-self-1) → slice_get c.place.new.self.all.items c.in_ok-place.place ≡ Some c.index_mut.result.now
stands c =
    let f = c.in_ok-place.ensures.found in
    got-here c.place.new.self.all.items c.in_ok-place.place f.0 c.index_mut.result.now f.1 c.index_mut.ensures.value

own-lane : (c : goal.After-self-1) → c.index_mut.result.now.lane ≡ c.args.lane
own-lane c =
    let f = c.in_ok-place.ensures.found in
    ap (λ (x : CellNotes). x.lane) (some-same (sym (stands c) ∙ f.1)) ∙ f.2

own-block : (c : goal.After-self-1) → c.index_mut.result.now.block ≡ c.args.block
own-block c =
    let f = c.in_ok-place.ensures.found in
    ap (λ (x : CellNotes). x.block) (some-same (sym (stands c) ∙ f.1)) ∙ f.3

pub returns-clause-table : goal.returns-clause-table
returns-clause-table c =
    on_ok_weaker c.add_note.result
    (λ h. note-table c.place.new.self (after c) c.args.note c.in_ok-place.place c.index_mut.result.now (changed c) (stands c) refl refl h refl refl c.in_ok-place.ensures.table)
    c.add_note.ensures

pub returns-clause-added : goal.returns-clause-added
returns-clause-added c =
    let list = c.index_mut.result.now in
    on_ok_weaker c.add_note.result
    (λ h. adds-both c.args.self.now.all.items c.place.new.self.all.items (after c).all.items (λ l b n. ⊥) (λ l b n. (l ≡ list.lane) × (b ≡ list.block) × (n ≡ c.args.note)) (λ l b n. (l ≡ c.args.lane) × (b ≡ c.args.block) × (n ≡ c.args.note))
    (λ l b n z. absurd z) (λ l b n z. (z.0 ∙ own-lane c, z.1 ∙ own-block c, z.2)) c.in_ok-place.ensures.added
    (note-added c.place.new.self (after c) c.args.note c.in_ok-place.place list (changed c) (stands c) refl refl h refl))
    c.add_note.ensures

pub returns-clause-noted : goal.returns-clause-noted
returns-clause-noted c =
    on_ok_weaker c.add_note.result
    (λ h. subst (λ b. HasNote (after c).all.items c.args.lane b c.args.note.id) (own-block c)
    (subst (λ l. HasNote (after c).all.items l c.index_mut.result.now.block c.args.note.id) (own-lane c)
    (note-noted c.place.new.self (after c) c.args.note c.in_ok-place.place c.index_mut.result.now (changed c) (stands c) refl refl h refl)))
    c.add_note.ensures

pub returns-clause-filled : goal.returns-clause-filled
returns-clause-filled c =
    on_ok_weaker c.add_note.result
    (λ h. note-filled c.place.new.self (after c) c.args.note c.in_ok-place.place c.index_mut.result.now (changed c) (stands c) refl refl h refl c.args.self.now.all.items c.in_ok-place.ensures.others)
    c.add_note.ensures
