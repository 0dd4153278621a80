use Rattle.std.proofs.Common.{◌≡◌, ◌∙◌, ◌++◌, true, ap, subst, get_or}
use Rattle.std.specs.Prelude.{slice_get}
use Rattle.std.specs.List.{list_all}
use Rattle.live_lanes.specs.declared.live.LiveFunc.{LiveFunc}
use Rattle.split_choose.specs.declared.regions.InsidePart.TheVariants as places
use Rattle.split_choose.specs.Seen.{ends_in_terminators}
use Rattle.split_choose.specs.Parts.{marks_there}
use Rattle.split_choose.proofs.Labelling.{marks_first, marks_next, marks_last}
use Rattle.split_choose.proofs.regions.labels_of.Goals as goal

pub spans-init : goal.spans-init
spans-init c = λ v offers inside ended are. c.new-labels.ensures ∙ marks_first c.args.view.m.now.live.target c.args.view.m.now.live.func v offers inside c.args.view.spans.now

pub spans-preserved : goal.spans-preserved
spans-preserved c = λ v offers inside ended are.
    let s = c.span-item.result in
    let P : LiveFunc → Type 0 = λ live. list_all (λ b. ends_in_terminators live.target b.instrs) live.func.blocks ≡ true
    → c.add_labels.new.labels ≡ c.spans.labels ++ marks_there live.target live.func v offers (slice_get live.func.blocks s.position) c.inside_there-inside.result in
    marks_next c.args.view.m.now.live.target c.args.view.m.now.live.func v offers inside c.args.view.spans.now c.args.offer.now.insides.items c.spans.k s c.inside_there-inside.result c.spans.labels c.add_labels.new.labels
    c.spans-test.true c.span-item.is are
    (c.inside_there-inside.ensures ∙ ap (λ xs. get_or xs c.spans.k places.Nowhere) c.as_slice.ensures.value)
    (c.spans.invariant v offers inside ended are)
    (subst P c.live.ensures (c.in_ok-add_labels.ensures v offers) ended)

pub returns : goal.returns
returns c = λ v offers inside ended are.
    marks_last c.args.view.m.now.live.target c.args.view.m.now.live.func v offers inside c.args.view.spans.now c.spans.k c.spans.labels c.spans-test.false (c.spans.invariant v offers inside ended are)
