use Rattle.std.proofs.Common.{rules, ◌≡◌, ◌≤◌, ◌++◌, ◌∙◌, true, false, length, take, drop, List, Option, sym, ap, subst, arith}
use Rattle.std.specs.Prelude.{is_some}
use Rattle.std.proofs.lemmas.List.{length-map}
use Rattle.instr_effects.specs.declared.lane_acts.LaneRead.{LaneRead}
use Rattle.live_lanes.specs.declared.row.LaneUse.{LaneUse}
use Rattle.live_lanes.specs.Table.{seen_cell, begun}
use Rattle.live_edits.specs.CellChanges.{piece_readings}
use Rattle.live_edits.specs.Renoted.{under, CutsReadings, first_read, without_first}
use Rattle.live_edits.proofs.RenotePieces.{take-rest}
use Rattle.live_edits.proofs.ReadChanges.{notes-same, notes-gone, notes-moved, notes-come}
use Rattle.live_edits.proofs.renote.read_change.Goals as goal

pub returns-then-eq : goal.returns-then-eq
returns-then-eq c =
    let v = seen_cell c.args.cell.now in
    let id = c.args.id in
    let k = c.piece_before-index.result in
    let at = c.readings_before-at.result in
    let readings = c.readings_of-readings.result.now in
    let own : List LaneUse = piece_readings v.readings v.segments k in
    let within : k ≤ length v.segments = omega (arith, length-map c.args.cell.now.segments.items begun, c.piece_before-index.ensures.within) in
    let inside : at ≤ length readings = c.readings_before-at.ensures.within in
    let those : CutsReadings (under c.args.slots.now id) own at = subst (λ rs. CutsReadings (under c.args.slots.now id) rs at) c.readings_of-readings.ensures c.readings_before-at.ensures.cut in
    let former : c.first_read-former.result ≡ first_read id (drop at own) = c.first_read-former.ensures ∙ (ap (first_read id) (take-rest readings at inside) ∙ ap (λ rs. first_read id (drop at rs)) c.readings_of-readings.ensures) in
    let same : c.first_read-former.result ≡ c.args.read = search rules in
    notes-same c.args.slots.now id v k within c.piece_before-index.ensures.cut at those c.args.read (sym former ∙ same)

pub returns-in_default : goal.returns-in_default
returns-in_default c =
    let v = seen_cell c.args.cell.now in
    let id = c.args.id in
    let k = c.piece_before-index.result in
    let at = c.readings_before-at.result in
    let readings = c.readings_of-readings.result.now in
    let own : List LaneUse = piece_readings v.readings v.segments k in
    let within : k ≤ length v.segments = omega (arith, length-map c.args.cell.now.segments.items begun, c.piece_before-index.ensures.within) in
    let inside : at ≤ length readings = c.readings_before-at.ensures.within in
    let those : CutsReadings (under c.args.slots.now id) own at = subst (λ rs. CutsReadings (under c.args.slots.now id) rs at) c.readings_of-readings.ensures c.readings_before-at.ensures.cut in
    let left : c.in_ok-left.left.items ≡ take at own ++ without_first id (drop at own) = c.in_ok-left.ensures ∙ (λ i. take at (c.readings_of-readings.ensures i) ++ (c.without_first.ensures ∙ (ap (without_first id) (take-rest readings at inside) ∙ ap (λ rs. without_first id (drop at rs)) c.readings_of-readings.ensures)) i) in
    notes-gone c.args.slots.now id v k within c.piece_before-index.ensures.cut at those c.args.read c.in_ok-left.left.items c.in_default.is left

pub returns-then-is_some : goal.returns-then-is_some
returns-then-is_some c =
    let v = seen_cell c.args.cell.now in
    let id = c.args.id in
    let k = c.piece_before-index.result in
    let at = c.readings_before-at.result in
    let readings = c.readings_of-readings.result.now in
    let own : List LaneUse = piece_readings v.readings v.segments k in
    let within : k ≤ length v.segments = omega (arith, length-map c.args.cell.now.segments.items begun, c.piece_before-index.ensures.within) in
    let inside : at ≤ length readings = c.readings_before-at.ensures.within in
    let those : CutsReadings (under c.args.slots.now id) own at = subst (λ rs. CutsReadings (under c.args.slots.now id) rs at) c.readings_of-readings.ensures c.readings_before-at.ensures.cut in
    let former : c.first_read-former.result ≡ first_read id (drop at own) = c.first_read-former.ensures ∙ (ap (first_read id) (take-rest readings at inside) ∙ ap (λ rs. first_read id (drop at rs)) c.readings_of-readings.ensures) in
    let there : is_some (first_read id (drop at own)) ≡ true = ap (λ (o : Option LaneRead). is_some o) (sym former) ∙ (sym c.is_some.ensures ∙ c.if-is_some.true) in
    notes-moved c.args.slots.now id v k within c.piece_before-index.ensures.cut at those c.args.read c.in-Some.read c.in-Some.is there

pub returns : goal.returns
returns c =
    let v = seen_cell c.args.cell.now in
    let id = c.args.id in
    let k = c.piece_before-index.result in
    let at = c.readings_before-at.result in
    let readings = c.readings_of-readings.result.now in
    let own : List LaneUse = piece_readings v.readings v.segments k in
    let within : k ≤ length v.segments = omega (arith, length-map c.args.cell.now.segments.items begun, c.piece_before-index.ensures.within) in
    let inside : at ≤ length readings = c.readings_before-at.ensures.within in
    let those : CutsReadings (under c.args.slots.now id) own at = subst (λ rs. CutsReadings (under c.args.slots.now id) rs at) c.readings_of-readings.ensures c.readings_before-at.ensures.cut in
    let former : c.first_read-former.result ≡ first_read id (drop at own) = c.first_read-former.ensures ∙ (ap (first_read id) (take-rest readings at inside) ∙ ap (λ rs. first_read id (drop at rs)) c.readings_of-readings.ensures) in
    let absent : is_some (first_read id (drop at own)) ≡ false = ap (λ (o : Option LaneRead). is_some o) (sym former) ∙ (sym c.is_some.ensures ∙ c.if-is_some.false) in
    let place : at ≤ length own = omega (arith, inside, ap length c.readings_of-readings.ensures) in
    notes-come c.args.slots.now id v k within c.piece_before-index.ensures.cut at those c.args.read c.in-Some.read c.in-Some.is place absent
