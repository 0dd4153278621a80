use Rattle.std.proofs.Common.{◌≡◌, ◌≤◌, ◌+◌, ◌∙◌, List, length, take, drop, append-nil, ap, subst, arith}
use Rattle.std.proofs.lemmas.List.{length-map}
use Rattle.live_lanes.specs.declared.row.LaneUse.{LaneUse}
use Rattle.live_lanes.specs.Table.{seen_cell, begun}
use Rattle.live_edits.specs.CellChanges.{piece_readings}
use Rattle.live_edits.specs.Renoted.{not_over, CutsReadings}
use Rattle.live_edits.proofs.RenotePieces.{take-rest}
use Rattle.live_edits.proofs.BegunPieces.{begins-taking, begins-whole}
use Rattle.live_edits.proofs.renote.begin.Goals as goal

pub returns-then-at-readings : goal.returns-then-at-readings
returns-then-at-readings c =
    let v = seen_cell c.args.cell.now in
    let k = c.args.index in
    let own : List LaneUse = piece_readings v.readings v.segments k in
    let at = c.readings_through-at.result in
    let readings = c.readings_of-readings.result.now in
    let within : k ≤ length v.segments = omega (arith, length-map c.args.cell.now.segments.items begun, c.requires) in
    let more : c.len.result + 1 ≡ length v.segments + 1 = omega (arith, length-map c.args.cell.now.segments.items begun, c.len.ensures, c.args.cell.now.segments.ok.0) in
    let those : CutsReadings (not_over c.args.slots.now c.args.id) own at = subst (λ rs. CutsReadings (not_over c.args.slots.now c.args.id) rs at) c.readings_of-readings.ensures c.readings_through-at.ensures.cut in
    let all : at ≡ length own = omega (arith, c.if-at-readings.true, ap length c.readings_of-readings.ensures) in
    let behind : c.in_ok-behind.behind.items ≡ drop at own = c.in_ok-behind.ensures ∙ (append-nil _ ∙ (take-rest readings at c.readings_through-at.ensures.within ∙ ap (drop at) c.readings_of-readings.ensures)) in
    record { count = at; cut = those; is = begins-whole v k c.args.id c.args.write.early c.args.write.from c.begun_piece-piece.result (c.len.result + 1) within more at c.in_ok-behind.behind.items all behind c.begun_piece-piece.ensures }

pub returns : goal.returns
returns c =
    let v = seen_cell c.args.cell.now in
    let k = c.args.index in
    let own : List LaneUse = piece_readings v.readings v.segments k in
    let at = c.readings_through-at.result in
    let readings = c.readings_of-readings.result.now in
    let within : k ≤ length v.segments = omega (arith, length-map c.args.cell.now.segments.items begun, c.requires) in
    let more : c.len.result + 1 ≡ length v.segments + 1 = omega (arith, length-map c.args.cell.now.segments.items begun, c.len.ensures, c.args.cell.now.segments.ok.0) in
    let those : CutsReadings (not_over c.args.slots.now c.args.id) own at = subst (λ rs. CutsReadings (not_over c.args.slots.now c.args.id) rs at) c.readings_of-readings.ensures c.readings_through-at.ensures.cut in
    let behind : c.in_ok-behind.behind.items ≡ drop at own = c.in_ok-behind.ensures ∙ (append-nil _ ∙ (take-rest readings at c.readings_through-at.ensures.within ∙ ap (drop at) c.readings_of-readings.ensures)) in
    let before : c.in_ok-before.before.items ≡ take at own = c.in_ok-before.ensures ∙ (append-nil _ ∙ ap (take at) c.readings_of-readings.ensures) in
    record { count = at; cut = those; is = begins-taking v k c.args.id c.args.write.early c.args.write.from c.begun_piece-piece.result (c.len.result + 1) within more at c.in_ok-before.before.items c.in_ok-behind.behind.items before behind c.begun_piece-piece.ensures }
