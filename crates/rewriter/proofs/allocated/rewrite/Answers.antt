use Rattle.std.proofs.Common.{◌∙◌, ap, sym}
use Rattle.std.proofs.lemmas.Result.{IfOk-weaker}
use Rattle.live_lanes.specs.declared.live.LiveFunc.{LiveFunc}
use Rattle.spiller.specs.RangeSlots.{numbers_with_classes}
use Rattle.rewriter.specs.LiveUnits.{is_live_unit}
use Rattle.rewriter.specs.Physical.{Assignment}
use Rattle.rewriter.specs.Rewritten.{registers_of}
use Rattle.rewriter.proofs.Rewritten.{rewritten}
use Rattle.rewriter.proofs.allocated.rewrite.Goals as goal

pub returns : goal.returns
returns c =
    let m = c.args.a.matrix in
    let registers = c.as_slice-2.ensures.value ∙ c.in_ok-registers.ensures in
    let slots = c.as_slice-3.ensures.value ∙ (c.in_ok-given.ensures ∙ ap numbers_with_classes c.given_slots.ensures) in
    let f = c.into_func-f.ensures ∙ ap (λ (x : LiveFunc). x.func) c.into_live.ensures in
    IfOk-weaker c.rewrite_assigned.result _ _ (λ g e.
    rewritten c.args.target.now c.as_slice-2.result.now (registers_of m) c.as_slice-3.result.now (numbers_with_classes c.args.a.slots.given.items) c.in_ok-live.live m.live c.into_func-f.result g registers slots f (λ p u.
    c.in_ok-live.ensures p u
    ∙ (ap (λ (x : LiveFunc). is_live_unit x c.as_slice.result.now p u) c.live.ensures
    ∙ ap (λ (rs : Assignment). is_live_unit m.live rs p u) (c.as_slice.ensures.value ∙ sym c.as_slice-2.ensures.value))) e)
    c.rewrite_assigned.ensures.exact
