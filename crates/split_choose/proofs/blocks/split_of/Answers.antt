use Rattle.std.proofs.Common.{◌∙◌, sym, arith}
use Rattle.split_choose.proofs.Bordering.{borders-by-lanes}
use Rattle.split_choose.proofs.Split.{too-few, no-border, is-offered}
use Rattle.split_choose.proofs.blocks.split_of.Goals as goal

pub returns-then-len-lt2 : goal.returns-then-len-lt2
returns-then-len-lt2 c view finds lives =
    let ids = c.as_slice.ensures.value ∙ finds.touched c.in_ok-touched.touched.items c.in_ok-touched.ensures in
    let places = c.in_ok-places.ensures c.args.v view finds ids in
    too-few c.args.live.now.target c.args.live.now.func c.args.v view c.in_ok-places.places.items places (omega arith)

pub returns-then-not-is_live_at_border : goal.returns-then-not-is_live_at_border
returns-then-not-is_live_at_border c view finds lives =
    let ids = c.as_slice.ensures.value ∙ finds.touched c.in_ok-touched.touched.items c.in_ok-touched.ensures in
    let places = c.in_ok-places.ensures c.args.v view finds ids in
    no-border c.args.live.now.target c.args.live.now.func c.args.v view c.in_ok-places.places.items places
    (sym (borders-by-lanes c.args.live.now.target c.args.live.now.func c.args.live.now.table c.args.v view finds lives) ∙ (sym (c.is_live_at_border.ensures finds.order) ∙ c.if-not-is_live_at_border.true))

pub returns : goal.returns
returns c view finds lives =
    let ids = c.as_slice.ensures.value ∙ finds.touched c.in_ok-touched.touched.items c.in_ok-touched.ensures in
    let places = c.in_ok-places.ensures c.args.v view finds ids in
    is-offered c.args.live.now.target c.args.live.now.func c.args.v view c.in_ok-places.places.items places c.in_ok-labels.labels (omega arith)
    (sym (borders-by-lanes c.args.live.now.target c.args.live.now.func c.args.live.now.table c.args.v view finds lives) ∙ (sym (c.is_live_at_border.ensures finds.order) ∙ c.if-not-is_live_at_border.false))
    (c.in_ok-labels.ensures c.args.v view finds (c.as_slice-2.ensures.value ∙ places))
