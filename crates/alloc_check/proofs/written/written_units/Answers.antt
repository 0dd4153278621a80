use Rattle.std.proofs.Common.{◌≡◌, ◌∙◌, IfOk, not, ap, subst}
use Rattle.meaning.specs.declared.types.Lane.TheVariants.{UnitLane}
use Rattle.alloc_check.specs.Marks.{is_marked}
use Rattle.alloc_check.specs.Written.{rows_leave}
use Rattle.alloc_check.proofs.WrittenMarks.{same-kept}
use Rattle.alloc_check.proofs.written.written_units.Goals as goal

pub returns : goal.returns
returns c =
    let rows = c.args.rows.now in
    let marks = c.as_slice.result.now in
    let same = same-kept (λ n. is_marked marks n) (λ n. not (rows_leave rows (UnitLane n))) c.number_above.result
    (λ u lt. ap (λ xs. is_marked xs u) c.as_slice.ensures.value ∙ c.in_ok-marks.ensures u lt) c.args.units.now c.number_above.ensures in
    subst (λ us. IfOk c.marked_units.result (λ made. made ≡ us)) same c.marked_units.ensures
