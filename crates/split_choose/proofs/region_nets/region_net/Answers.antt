use Rattle.std.proofs.Common.{◌≡◌, ◌∙◌, List, refl, sym, subst, length}
use Rattle.std.proofs.lemmas.Result.{IfOk-weaker}
use Rattle.live_lanes.specs.declared.live.LiveFunc.{LiveFunc}
use Rattle.live_lanes.specs.Touching.{AreTouched}
use Rattle.live_lanes.specs.Tells.{touching_ids}
use Rattle.live_lanes.specs.Ways.{successors}
use Rattle.interference.specs.declared.matrix.Matrix.{Matrix}
use Rattle.split_choose.specs.declared.spans.Span.{Span}
use Rattle.split_choose.specs.Bundles.{IsClosed, AreBundles}
use Rattle.split_choose.specs.Seen.{FindsPlaces, FindsPoints}
use Rattle.split_choose.specs.Spanned.{AreSpansOf}
use Rattle.split_choose.proofs.Closed.{closed}
use Rattle.split_choose.proofs.Regional.{ready}
use Rattle.split_choose.proofs.region_nets.region_net.Goals as goal

pub returns : goal.returns
returns c =
    IfOk-weaker c.net_over.result _ _
    (λ made h finds points ways. (
    let m = c.args.m.now in
    let v = c.args.v in
    let parents = c.in_ok-bundles.bundles.parents.items in
    let freqs = c.args.freqs.now in
    let spans = c.as_slice-2.result.now in
    let Exact : LiveFunc → Type 0 = λ live. IsClosed (successors live.table.flow.items) (length live.func.blocks) → AreBundles (successors live.table.flow.items) parents in
    let bundles : AreBundles (successors m.live.table.flow.items) parents = subst Exact c.live.ensures c.in_ok-bundles.ensures.exact (closed m.live.func m.live.table ways) in
    let Names : LiveFunc → Type 0 = λ live. AreTouched live.table v c.in_ok-touched.touched.items in
    let touched : AreTouched m.live.table v c.in_ok-touched.touched.items = subst Names c.live-2.ensures c.in_ok-touched.ensures in
    let ids = finds.touched c.in_ok-touched.touched.items touched in
    let Spans : LiveFunc → Type 0 = λ live. (n : Matrix) → n.live ≡ live → FindsPlaces live.target live.func live.table v → FindsPoints n
    → c.as_slice.result.now ≡ touching_ids live.func v → AreSpansOf n v freqs c.in_ok-spans.spans.items in
    let Of : List Span → Type 0 = λ ss. AreSpansOf m v freqs ss in
    let are : AreSpansOf m v freqs spans = subst Of (sym c.as_slice-2.ensures.value) (subst Spans c.live-3.ensures c.in_ok-spans.ensures m refl finds points (c.as_slice.ensures.value ∙ ids)) in
    (parents, spans, bundles, are, λ few. h (ready m v parents freqs finds points spans are c.in_ok-bundles.ensures.earlier) few)))
    c.net_over.ensures
