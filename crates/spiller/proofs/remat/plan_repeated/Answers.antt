use Rattle.std.proofs.Common.{◌∙◌, ap, map, subst, sym}
use Rattle.std.proofs.lemmas.Result.{IfOk-weaker}
use Rattle.spiller.specs.declared.reaching.Definition.{Definition}
use Rattle.spiller.specs.Listed.{IsToldBy}
use Rattle.spiller.specs.Readings.{TellConstants}
use Rattle.spiller.proofs.remat.plan_repeated.Goals as goal

pub returns : goal.returns
returns c =
    let same = c.as_slice.ensures.value in
    IfOk-weaker c.remat_for.result _ _
    (λ r h. h (ap (map (λ (d : Definition). d.id)) same ∙ c.in_ok-definitions.ensures.ids) (subst (IsToldBy c.args.view c.args.touched.now) (sym same) c.in_ok-definitions.ensures.told)
    (subst (TellConstants c.args.view.target.now c.args.view.live.now.func c.args.view.live.now.table) (sym same) c.in_ok-definitions.ensures.constants))
    c.remat_for.ensures
