use Rattle.std.proofs.Common.{◌≡◌, ◌≤◌, ◌∙◌, true, false, length, sym, subst, arith}
use Rattle.std.proofs.lemmas.List.{length-map}
use Rattle.live_lanes.specs.Table.{seen_cell, begun}
use Rattle.live_edits.specs.RemadeSteps.{def_of_write}
use Rattle.live_edits.specs.Renoted.{is_begun_by, NotesWriting, all_changed}
use Rattle.live_edits.proofs.RenoteTold.{begun-within}
use Rattle.live_edits.proofs.RenoteRows.{notes-rewritten, notes-begun, notes-joined, notes-none}
use Rattle.live_edits.proofs.renote.write_changes.Goals as goal

pub join-requires : goal.join-requires
join-requires c =
    let v = seen_cell c.args.cell.now in
    let begun-so : is_begun_by c.args.id v.segments c.piece_before-index.result ≡ true = sym c.is_begun_by-is_begun.ensures ∙ c.if-is_begun-2.true in
    let w = begun-within c.args.id v.segments c.piece_before-index.result begun-so in
    omega (arith, length-map c.args.cell.now.segments.items begun, w)

pub returns-then-is_begun : goal.returns-then-is_begun
returns-then-is_begun c =
    let v = seen_cell c.args.cell.now in
    let k = c.piece_before-index.result in
    let within : k ≤ length v.segments = omega (arith, length-map c.args.cell.now.segments.items begun, c.piece_before-index.ensures.within) in
    let begun-so : is_begun_by c.args.id v.segments k ≡ true = sym c.is_begun_by-is_begun.ensures ∙ c.if-is_begun.true in
    λ l. subst (λ w. NotesWriting c.args.slots.now c.args.id (def_of_write l w) v (all_changed c.rewrite.result v)) (sym c.in-Some.is) (notes-rewritten c.args.slots.now c.args.id v k within c.piece_before-index.ensures.cut begun-so l c.in-Some.write (all_changed c.rewrite.result v) (c.rewrite.ensures v))

pub returns-else-is_begun : goal.returns-else-is_begun
returns-else-is_begun c =
    let v = seen_cell c.args.cell.now in
    let k = c.piece_before-index.result in
    let within : k ≤ length v.segments = omega (arith, length-map c.args.cell.now.segments.items begun, c.piece_before-index.ensures.within) in
    let other : is_begun_by c.args.id v.segments k ≡ false = sym c.is_begun_by-is_begun.ensures ∙ c.if-is_begun.false in
    notes-begun c.args.slots.now c.args.id v k within c.piece_before-index.ensures.cut other c.in-Some.write c.args.write c.in-Some.is c.begin.result c.begin.ensures

pub returns-then-is_begun-2 : goal.returns-then-is_begun-2
returns-then-is_begun-2 c =
    let v = seen_cell c.args.cell.now in
    let k = c.piece_before-index.result in
    let within : k ≤ length v.segments = omega (arith, length-map c.args.cell.now.segments.items begun, c.piece_before-index.ensures.within) in
    let begun-so : is_begun_by c.args.id v.segments k ≡ true = sym c.is_begun_by-is_begun.ensures ∙ c.if-is_begun-2.true in
    notes-joined c.args.slots.now c.args.id v k within c.piece_before-index.ensures.cut begun-so c.args.write c.in-None.is c.join.result c.join.ensures

pub returns-else-is_begun-2 : goal.returns-else-is_begun-2
returns-else-is_begun-2 c =
    let v = seen_cell c.args.cell.now in
    let k = c.piece_before-index.result in
    let within : k ≤ length v.segments = omega (arith, length-map c.args.cell.now.segments.items begun, c.piece_before-index.ensures.within) in
    let other : is_begun_by c.args.id v.segments k ≡ false = sym c.is_begun_by-is_begun.ensures ∙ c.if-is_begun-2.false in
    λ l. subst (λ w. NotesWriting c.args.slots.now c.args.id (def_of_write l w) v v) (sym c.in-None.is) (notes-none c.args.slots.now c.args.id v k within c.piece_before-index.ensures.cut other)
