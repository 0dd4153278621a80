use Rattle.std.proofs.Common.{◌∙◌, List, refl, subst, Option, None, Some}
use Rattle.std.proofs.lemmas.Result.{IfOk-weaker}
use Rattle.target_base.specs.declared.types.Reg.{Reg}
use Rattle.split_choose.specs.declared.cuts.RegionCut.{RegionCut}
use Rattle.split_choose.specs.Regions.{capped, uses_of}
use Rattle.split_choose.specs.Choices.{IsBestBelow}
use Rattle.split_choose.proofs.cuts.best_region.Goals as goal

pub returns-in_default : goal.returns-in_default
returns-in_default c = λ v offers within ended.
    let m = c.args.view.m.now in
    let parents = c.args.view.bundles.now.parents.items in
    let spans = c.args.view.spans.now in
    let Best : Option RegionCut → Type 0 = λ q. IsBestBelow m c.args.view.v parents spans (capped (uses_of spans)) c.as_slice.result.now q in
    let Among : List Reg → Type 0 = λ rs. IsBestBelow m c.args.view.v parents spans (capped (uses_of spans)) rs None in
    record {
      choice = None;
      best = subst Among (c.as_slice.ensures.value ∙ c.in_ok-registers.ensures) (subst Best c.in_default.is (c.in_ok-choice.ensures within));
      same = refl;
    }

pub returns : goal.returns
returns c =
    IfOk-weaker c.label_cut.result _ _
    (λ q h v offers within ended. (
    let m = c.args.view.m.now in
    let parents = c.args.view.bundles.now.parents.items in
    let spans = c.args.view.spans.now in
    let Best : Option RegionCut → Type 0 = λ o. IsBestBelow m c.args.view.v parents spans (capped (uses_of spans)) c.as_slice.result.now o in
    let Among : List Reg → Type 0 = λ rs. IsBestBelow m c.args.view.v parents spans (capped (uses_of spans)) rs (Some c.in-Some.choice) in
    record {
      choice = Some c.in-Some.choice;
      best = subst Among (c.as_slice.ensures.value ∙ c.in_ok-registers.ensures) (subst Best c.in-Some.is (c.in_ok-choice.ensures within));
      same = h v offers ended;
    }))
    c.label_cut.ensures
