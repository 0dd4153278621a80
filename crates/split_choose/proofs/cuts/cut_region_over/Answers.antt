use Rattle.std.proofs.Common.{◌≡◌, ◌∙◌, ℕ, List, refl, sym, subst, map, arith}
use Rattle.std.proofs.lemmas.Result.{IfOk-weaker}
use Rattle.live_lanes.specs.declared.live.LiveFunc.{LiveFunc}
use Rattle.live_lanes.specs.Touching.{AreTouched}
use Rattle.live_lanes.specs.Tells.{touching_ids}
use Rattle.interference.specs.declared.matrix.Matrix.{Matrix}
use Rattle.split_choose.specs.declared.spans.Span.{Span}
use Rattle.split_choose.specs.Offers.{View, touched_places}
use Rattle.split_choose.specs.Places.{placed}
use Rattle.split_choose.specs.Seen.{FindsPlaces, FindsPoints, view_of}
use Rattle.split_choose.specs.Spanned.{AreSpansOf}
use Rattle.split_choose.proofs.Smallness.{within}
use Rattle.split_choose.proofs.CutChosen.{no-cut, cut-is}
use Rattle.split_choose.proofs.cuts.cut_region_over.Goals as goal

pub returns-then-len-lt2 : goal.returns-then-len-lt2
returns-then-len-lt2 c = λ earlier finds points counted small.
    let m = c.args.m.now in
    let v = c.args.v in
    let parents = c.args.bundles.now.parents.items in
    let Names : LiveFunc → Type 0 = λ live. AreTouched live.table v c.in_ok-touched.touched.items in
    let touched : AreTouched m.live.table v c.in_ok-touched.touched.items = subst Names c.live.ensures c.in_ok-touched.ensures in
    let ids = c.as_slice.ensures.value ∙ finds.touched c.in_ok-touched.touched.items touched in
    let Places : LiveFunc → Type 0 = λ live. (w : ℕ) (view : View) → FindsPlaces live.target live.func live.table w → c.as_slice.result.now ≡ touching_ids live.func w
    → c.in_ok-places.places.items ≡ map (placed live.func.blocks) (touched_places live.target live.func w view) in
    no-cut m v parents c.args.freqs.now finds c.in_ok-places.places.items (subst Places c.live-2.ensures c.in_ok-places.ensures v (view_of m v parents) finds ids) (omega arith)

pub returns : goal.returns
returns c =
    IfOk-weaker c.best_region.result _ _
    (λ q h earlier finds points counted small. (
    let m = c.args.m.now in
    let v = c.args.v in
    let parents = c.args.bundles.now.parents.items in
    let freqs = c.args.freqs.now in
    let spans = c.as_slice-3.result.now in
    let Names : LiveFunc → Type 0 = λ live. AreTouched live.table v c.in_ok-touched.touched.items in
    let touched : AreTouched m.live.table v c.in_ok-touched.touched.items = subst Names c.live.ensures c.in_ok-touched.ensures in
    let ids = finds.touched c.in_ok-touched.touched.items touched in
    let Places : LiveFunc → Type 0 = λ live. (w : ℕ) (view : View) → FindsPlaces live.target live.func live.table w → c.as_slice.result.now ≡ touching_ids live.func w
    → c.in_ok-places.places.items ≡ map (placed live.func.blocks) (touched_places live.target live.func w view) in
    let same = subst Places c.live-2.ensures c.in_ok-places.ensures v (view_of m v parents) finds (c.as_slice.ensures.value ∙ ids) in
    let Spans : LiveFunc → Type 0 = λ live. (n : Matrix) → n.live ≡ live → FindsPlaces live.target live.func live.table v → FindsPoints n
    → c.as_slice-2.result.now ≡ touching_ids live.func v → AreSpansOf n v freqs c.in_ok-spans.spans.items in
    let Of : List Span → Type 0 = λ ss. AreSpansOf m v freqs ss in
    let are : AreSpansOf m v freqs spans = subst Of (sym c.as_slice-3.ensures.value) (subst Spans c.live-3.ensures c.in_ok-spans.ensures m refl finds points (c.as_slice-2.ensures.value ∙ ids)) in
    cut-is m v parents freqs finds c.in_ok-places.places.items same points spans are c.in_ok-touched.touched.items touched earlier counted (omega arith) q
    (h v (view_of m v parents) (within m v parents freqs finds points spans are counted small earlier) finds.ended)))
    c.best_region.ensures
