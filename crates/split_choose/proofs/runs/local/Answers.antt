use Rattle.std.proofs.Common.{◌≡◌, ◌∙◌, sym, refl, arith}
use Rattle.split_choose.specs.Seen.{view_of}
use Rattle.split_choose.proofs.Locals.{too-few-places, lives-at-border, run-offered, places-at, border-at, local-at}
use Rattle.split_choose.proofs.runs.local.Goals as goal

pub returns-then-len-lt3 : goal.returns-then-len-lt3
returns-then-len-lt3 c parents finds points =
    too-few-places c.args.m.now.live.target c.args.m.now.live.func c.args.v (view_of c.args.m.now c.args.v parents) c.in_ok-places.places.items
    (places-at c.args.m.now c.args.v parents finds _ c.live-live.ensures c.in_ok-touched.touched.items _ c.in_ok-places.places.items c.in_ok-touched.ensures c.as_slice.ensures.value c.in_ok-places.ensures)
    (omega arith)

pub returns-then-is_live_at_border : goal.returns-then-is_live_at_border
returns-then-is_live_at_border c parents finds points =
    lives-at-border c.args.m.now.live.target c.args.m.now.live.func c.args.v (view_of c.args.m.now c.args.v parents) c.in_ok-places.places.items
    (places-at c.args.m.now c.args.v parents finds _ c.live-live.ensures c.in_ok-touched.touched.items _ c.in_ok-places.places.items c.in_ok-touched.ensures c.as_slice.ensures.value c.in_ok-places.ensures)
    (border-at c.args.m.now c.args.v parents finds _ c.live-live.ensures c.is_live_at_border.result c.is_live_at_border.ensures ∙ c.if-is_live_at_border.true)

pub returns : goal.returns
returns c parents finds points =
    run-offered c.args.m.now.live.target c.args.m.now.live.func c.args.v (view_of c.args.m.now c.args.v parents) c.in_ok-places.places.items
    (places-at c.args.m.now c.args.v parents finds _ c.live-live.ensures c.in_ok-touched.touched.items _ c.in_ok-places.places.items c.in_ok-touched.ensures c.as_slice.ensures.value c.in_ok-places.ensures)
    c.in_ok-split.split (omega arith)
    (border-at c.args.m.now c.args.v parents finds _ c.live-live.ensures c.is_live_at_border.result c.is_live_at_border.ensures ∙ c.if-is_live_at_border.false)
    (c.in_ok-split.ensures parents _
    (local-at c.args.m.now c.args.v parents finds _ c.live-live.ensures points _ c.in_ok-touched.touched.items _ _ c.in_ok-places.places.items _ c.in_ok-spans.spans.items _ c.is_live_at_border.result
    c.in_ok-touched.ensures c.as_slice.ensures.value c.as_slice-2.ensures.value c.in_ok-places.ensures c.as_slice-3.ensures.value c.is_live_at_border.ensures c.if-is_live_at_border.false c.in_ok-spans.ensures c.as_slice-4.ensures.value))
