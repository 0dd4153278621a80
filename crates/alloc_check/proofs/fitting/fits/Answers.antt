use Rattle.std.proofs.Common.{◌∙◌, ap, sym, length, arith}
use Rattle.std.specs.List.{list_all}
use Rattle.mir_func.specs.Value.{Function}
use Rattle.alloc_check.specs.Fitting.{is_class}
use Rattle.alloc_check.proofs.Classes.{classes_of, fits_of}
use Rattle.alloc_check.proofs.fitting.fits.Goals as goal

pub returns-then-len-le-MOST_RANGES-clause-fits : goal.returns-then-len-le-MOST_RANGES-clause-fits
returns-then-len-le-MOST_RANGES-clause-fits c all =
    let viewed = ap (λ (x : Function). x.classes) c.f.view_is in
    let same = ap length viewed in
    let few = c.if-len-le-MOST_RANGES.true in
    let count = c.len.ensures in
    fits_of c.args.target.now c.args.f.now (omega (arith, same, few, count)) (sym (c.are_classes.ensures ∙ ap (list_all (is_class c.args.target.now)) (c.as_slice.ensures ∙ viewed)) ∙ all)

pub returns-then-len-le-MOST_RANGES-clause-exact : goal.returns-then-len-le-MOST_RANGES-clause-exact
returns-then-len-le-MOST_RANGES-clause-exact c fits =
    let viewed = ap (λ (x : Function). x.classes) c.f.view_is in
    c.are_classes.ensures ∙ (ap (list_all (is_class c.args.target.now)) (c.as_slice.ensures ∙ viewed) ∙ classes_of c.args.target.now c.args.f.now fits)
