use Rattle.std.proofs.Common.{◌≡◌, ◌∙◌, ◌-◌, ◌^◌, sym, refl, arith, get_or}
use Rattle.evictor.proofs.Spots.{ids_are}
use Rattle.evictor.proofs.Uses.{uses_more, uses_all}
use Rattle.evictor.proofs.weights.use_sum.Goals as goal

pub touched-preserved : goal.touched-preserved
touched-preserved c = λ finds ids.
    let a = c.args in
    let list = c.as_slice-id-items.result.now in
    c.saturating_add-sum.ensures ∙ uses_more a.live.now.func.blocks a.freqs.now a.v (2 ^ 128 - 1) c.touched.id-index (get_or list c.touched.id-index 0) c.touched.sum c.uses_at.result list ids c.touched-test.true refl (c.uses_at.ensures finds) (c.touched.invariant finds ids)

pub returns : goal.returns
returns c = λ tells.
    let a = c.args in
    let ids = tells.touched a.v c.in_ok-touched.touched.items c.in_ok-touched.ensures ∙ sym (ids_are a.v 0 a.live.now.func.blocks) in
    uses_all a.live.now.func.blocks a.freqs.now a.v (2 ^ 128 - 1) c.touched.id-index c.touched.sum c.as_slice-id-items.result.now (c.as_slice-id-items.ensures.value ∙ ids) (omega arith) (c.touched.invariant tells.finds (c.as_slice-id-items.ensures.value ∙ ids))
