use Rattle.std.proofs.Common.{◌≡◌, ◌∙◌, IsTrue, ap}
use Rattle.mir_meaning.specs.Codes.{refines}
use Rattle.alloc_check.specs.Families.{HoldsWith}
use Rattle.alloc_check.specs.Looks.{KeepsReserved}
use Rattle.alloc_check.specs.LookRows.{rows_with_looks}
use Rattle.alloc_check.specs.Written.{written_units}
use Rattle.alloc_check.proofs.Lawful.{if-more}
use Rattle.alloc_check.proofs.ReservedUnits.{keeps_reserved, refines_beside}
use Rattle.alloc_check.proofs.looks.hold_with_looks.Goals as goal

pub returns-clause-refines : goal.returns-clause-refines
returns-clause-refines c =
    let t = c.args.t.now in
    let f = c.args.f.now in
    let g = c.args.g.now in
    let looks : c.as_slice-rows.result.now ≡ rows_with_looks (written_units c.args.rows t.reserved) c.args.rows =
    c.as_slice-rows.ensures
    ∙ (c.in_ok-rows.ensures
    ∙ ap (λ us. rows_with_looks us c.args.rows)
    (c.as_slice-3.ensures ∙ (c.in_ok-looked.ensures ∙ (ap (λ rows. written_units rows c.as_slice.result.now) c.as_slice-2.ensures ∙ ap (written_units c.args.rows) c.as_slice.ensures)))) in
    if-more (λ yes. IsTrue yes → HoldsWith t f g c.as_slice-rows.result.now) (λ yes. IsTrue yes → refines t f g) c.finds.result (λ yes found x. refines_beside t f g (found x).0 (written_units c.args.rows t.reserved) c.args.rows c.as_slice-rows.result.now c.requires looks (found x).1) c.finds.ensures

pub returns-clause-reserved : goal.returns-clause-reserved
returns-clause-reserved c =
    let t = c.args.t.now in
    let f = c.args.f.now in
    let g = c.args.g.now in
    let looks : c.as_slice-rows.result.now ≡ rows_with_looks (written_units c.args.rows t.reserved) c.args.rows =
    c.as_slice-rows.ensures
    ∙ (c.in_ok-rows.ensures
    ∙ ap (λ us. rows_with_looks us c.args.rows)
    (c.as_slice-3.ensures ∙ (c.in_ok-looked.ensures ∙ (ap (λ rows. written_units rows c.as_slice.result.now) c.as_slice-2.ensures ∙ ap (written_units c.args.rows) c.as_slice.ensures)))) in
    if-more (λ yes. IsTrue yes → HoldsWith t f g c.as_slice-rows.result.now) (λ yes. IsTrue yes → KeepsReserved t f g) c.finds.result (λ yes found x. keeps_reserved t f g (found x).0 c.args.rows c.as_slice-rows.result.now c.requires looks (found x).1) c.finds.ensures
