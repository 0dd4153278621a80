use Rattle.std.proofs.Common.{◌∙◌, List, ap, flat_map, subst, sym}
use Rattle.spiller.specs.declared.remat.RematUse.{RematUse}
use Rattle.spiller.specs.Listed.{TestsNeedless, told_sources}
use Rattle.spiller.specs.Readings.{placed_at}
use Rattle.spiller.specs.Views.{spilling_of}
use Rattle.spiller.proofs.ListSteps.{ok-both}
use Rattle.spiller.proofs.RematTells.{plan-tells}
use Rattle.spiller.proofs.remat.remat_for.Goals as goal

pub returns : goal.returns
returns c =
    let view = c.args.view in
    let ds = c.args.definitions.now in
    let us = c.in_ok-readings.readings.items in
    let same = c.as_slice.ensures.value in
    ok-both c.remat_of.result _ _ _
    (λ r sources deleted named told constants. plan-tells view c.args.touched.now ds us r named told constants c.in_ok-readings.ensures
    (λ n. sources n ∙ ap (λ (ws : List RematUse). placed_at n (flat_map told_sources ws)) same)
    (λ slot facts test finds all. deleted slot facts test finds (subst (λ (ws : List RematUse). TestsNeedless (spilling_of view slot facts) ds ws test) (sym same) all)))
    c.remat_of.ensures.sources c.remat_of.ensures.deleted
