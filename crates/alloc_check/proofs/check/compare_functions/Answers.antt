use Rattle.std.proofs.Common.{◌≡◌, ◌<◌, ◌∙◌, Some, length, sym, ap, arith}
use Rattle.mir_func.specs.Value.{Function}
use Rattle.alloc_check.specs.declared.check.Verdict.TheVariants.{No}
use Rattle.alloc_check.proofs.Passing.{both-ok}
use Rattle.alloc_check.proofs.Told.{told-none, told-rows, told-unlike}
use Rattle.alloc_check.proofs.check.compare_functions.Goals as goal

pub returns-in-Some-clause-facts : goal.returns-in-Some-clause-facts
returns-in-Some-clause-facts c = told-unlike c.args.target.now c.args.source.now c.args.allocated.now c.in-Some.place (sym c.in_ok-place.ensures ∙ c.in-Some.is) (No c.in-Some.place)

pub returns-in_ok-counted_place-in-None-clause-facts : goal.returns-in_ok-counted_place-in-None-clause-facts
returns-in_ok-counted_place-in-None-clause-facts c =
    let some : 0 < length c.args.source.now.blocks = omega (arith, c.source.invariant.nonempty, ap (λ (x : Function). length x.blocks) c.source.view_is) in
    told-none c.args.target.now c.args.source.now c.args.allocated.now some _ c.in-None.is c.in_ok-rows_of.ensures.exact _ c.in_ok-counted_place-in-None.ensures

pub returns-in-Some-2-clause-facts : goal.returns-in-Some-2-clause-facts
returns-in-Some-2-clause-facts c =
    let some : 0 < length c.args.source.now.blocks = omega (arith, c.source.invariant.nonempty, ap (λ (x : Function). length x.blocks) c.source.view_is) in
    let rows = c.as_slice.result.now in
    both-ok _ _ _ c.judge_rows.result
    (λ v judges lacking. told-rows c.args.target.now c.args.source.now c.args.allocated.now some _ rows (c.in-Some-2.is ∙ ap Some (sym c.as_slice.ensures)) c.in_ok-rows_of.ensures.exact v judges lacking)
    c.judge_rows.ensures.exact c.judge_rows.ensures.first
