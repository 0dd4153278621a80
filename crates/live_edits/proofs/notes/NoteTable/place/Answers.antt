use Rattle.std.proofs.Common.{inl, ◌≡◌, ◌∙◌, Some, None, length, sym, ap, refl, arith, rules}
use Rattle.std.specs.Prelude.{slice_get}
use Rattle.std.specs.Ordering.{nat_cmp}
use Rattle.std.specs.BTreeMap.{get}
use Rattle.live_edits.specs.declared.cells.CellNotes.{CellNotes}
use Rattle.live_edits.specs.declared.notes.NoteTable.{NoteTable}
use Rattle.live_edits.proofs.NotedTable.{found-there, list-added, list-there, list-others, list-table}
use Rattle.live_edits.proofs.notes.NoteTable.place.Goals as goal

pub returns-in-Some-clause-found : goal.returns-in-Some-clause-found
returns-in-Some-clause-found c =
    let there : get nat_cmp c.args.self.now.places c.cell_key-key.result ≡ Some c.in-Some.place.now = search rules in
    found-there c.args.self.now c.args.lane c.args.block c.in-Some.place.now c.requires (omega arith) (ap (λ q. get nat_cmp c.args.self.now.places q) (sym c.cell_key-key.ensures) ∙ there)

pub returns-in-Some-clause-others : goal.returns-in-Some-clause-others
returns-in-Some-clause-others c = λ k d h. inl h

pub returns-clause-others : goal.returns-clause-others
returns-clause-others c =
    let new : NoteTable = record { all = c.push.new.self; places = c.insert.new.self } in
    let last : CellNotes = record { lane = c.args.lane; block = c.args.block; notes = c.new.result } in
    let long : c.len-place.result ≡ length c.args.self.now.all.items = omega (arith, c.args.self.now.all.ok.0, c.len-place.ensures) in
    list-others c.args.self.now new last c.in_ok-push.ensures.items c.new.ensures.items c.len-place.result long

pub returns-clause-table : goal.returns-clause-table
returns-clause-table c =
    let new : NoteTable = record { all = c.push.new.self; places = c.insert.new.self } in
    let last : CellNotes = record { lane = c.args.lane; block = c.args.block; notes = c.new.result } in
    let long : c.len-place.result ≡ length c.args.self.now.all.items = omega (arith, c.args.self.now.all.ok.0, c.len-place.ensures) in
    let absent : get nat_cmp c.args.self.now.places c.cell_key-key.result ≡ None = search rules in
    list-table c.args.self.now new last c.in_ok-push.ensures.items c.new.ensures.items c.cell_key-key.result c.cell_key-key.ensures (omega arith) absent
    (c.in_ok-insert.ensures.updates.1 ∙ ap (λ n. Some n) long) c.in_ok-insert.ensures.updates.2 c.requires

pub returns-clause-added : goal.returns-clause-added
returns-clause-added c =
    let new : NoteTable = record { all = c.push.new.self; places = c.insert.new.self } in
    let last : CellNotes = record { lane = c.args.lane; block = c.args.block; notes = c.new.result } in
    list-added c.args.self.now new last c.in_ok-push.ensures.items c.new.ensures.items

pub returns-clause-found : goal.returns-clause-found
returns-clause-found c =
    let new : NoteTable = record { all = c.push.new.self; places = c.insert.new.self } in
    let last : CellNotes = record { lane = c.args.lane; block = c.args.block; notes = c.new.result } in
    let long : c.len-place.result ≡ length c.args.self.now.all.items = omega (arith, c.args.self.now.all.ok.0, c.len-place.ensures) in
    (last, ap (λ n. slice_get c.push.new.self.items n) long ∙ list-there c.args.self.now new last c.in_ok-push.ensures.items c.new.ensures.items, refl, refl)
