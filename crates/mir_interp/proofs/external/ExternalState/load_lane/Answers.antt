use Rattle.std.proofs.Common.{◌≡◌, ◌+◌, ◌-◌, ◌<◌, suc, Some, None, sym, ap, ◌∙◌, subst, arith}
use Rattle.meaning.specs.Perform.{byte_at, loaded_bytes}
use Rattle.mir_interp.proofs.Bits.{wrap}
use Rattle.mir_interp.proofs.Loading.{load_step, load_undef}
use Rattle.mir_interp.proofs.external.ExternalState.load_lane.Goals as goal

pub returns-in-None : goal.returns-in-None
returns-in-None g c = λ symbols n env h o r.
    let i = c.args.count - 1 - c.loop-k.k in
    let at = c.low_bits-at.ensures ∙ wrap (c.args.a + (c.args.count - 1 - c.loop-k.k)) c.args.w c.requires in
    let b = r.bytes c.low_bits-at.result ∙ sym (c.in-None.ensures symbols n env h) in
    let lt : c.args.count - 1 - c.loop-k.k < c.args.count = omega arith in
    sym (load_undef env o c.args.w c.args.a (c.args.count - 1 - c.loop-k.k) c.args.count lt (subst (λ t. byte_at env o.bytes t ≡ None) at b))

pub loop-k-preserved : goal.loop-k-preserved
loop-k-preserved g c = λ symbols n env h o r.
    let x = c.args.a + (c.args.count - 1 - c.loop-k.k) in
    let at = c.low_bits-at.ensures ∙ wrap (c.args.a + (c.args.count - 1 - c.loop-k.k)) c.args.w c.requires in
    let b = r.bytes c.low_bits-at.result ∙ sym (c.in-Some.ensures symbols n env h) in
    let next : c.args.a + (c.args.count - c.loop-k.k) ≡ c.args.a + (c.args.count - 1 - c.loop-k.k) + 1 = omega arith in
    let here : c.args.a + (c.args.count - (c.loop-k.k + 1)) ≡ c.args.a + (c.args.count - 1 - c.loop-k.k) = omega arith in
    let more : c.loop-k.k + 1 ≡ suc c.loop-k.k = omega arith in
    let inv = subst (λ t. loaded_bytes env o c.args.w t c.loop-k.k ≡ Some c.loop-k.number) next (c.loop-k.invariant symbols n env h o r) in
    let step = load_step env o c.args.w (c.args.a + (c.args.count - 1 - c.loop-k.k)) c.loop-k.k c.in-Some.byte c.loop-k.number (subst (λ t. byte_at env o.bytes t ≡ Some c.in-Some.byte) at b) inv in
    ap (λ t. loaded_bytes env o c.args.w t (c.loop-k.k + 1)) here
    ∙ (ap (λ t. loaded_bytes env o c.args.w (c.args.a + (c.args.count - 1 - c.loop-k.k)) t) more
    ∙ (step ∙ ap (λ t. Some t) (sym c.in_ok-number-in-Some.ensures)))

pub returns : goal.returns
returns g c = λ symbols n env h o r.
    let k : c.loop-k.k ≡ c.args.count = omega arith in
    let at : c.args.a + (c.args.count - c.loop-k.k) ≡ c.args.a = omega arith in
    sym (ap (λ t. loaded_bytes env o c.args.w c.args.a t) (sym k) ∙ (ap (λ t. loaded_bytes env o c.args.w t c.loop-k.k) (sym at) ∙ c.loop-k.invariant symbols n env h o r))
