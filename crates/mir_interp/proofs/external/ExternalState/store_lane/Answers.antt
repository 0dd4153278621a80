use Rattle.std.proofs.Common.{◌≡◌, ℕ, ◌+◌, ◌-◌, ◌%◌, ◌^◌, List, ◌∷◌, suc, refl, sym, ap, ◌∙◌, subst, arith}
use Rattle.meaning.specs.Environment.{Value}
use Rattle.meaning.specs.Perform.{stored_bytes, high_bytes}
use Rattle.mir_interp.specs.Remembers.{Matches}
use Rattle.mir_interp.proofs.Bits.{wrap}
use Rattle.mir_interp.proofs.Loading.{stored_bytes_same}
use Rattle.mir_interp.proofs.external.ExternalState.store_lane.Goals as goal

pub loop-k-preserved : goal.loop-k-preserved
loop-k-preserved c = (
  c.in_ok-store_byte.ensures.calls ∙ c.loop-k.invariant.0,
  λ env bs m.
      let i = c.loop-k.invariant.1 env bs m in
      let left = c.args.count - (c.loop-k._k + 1) in
      let more : c.args.count - c.loop-k._k ≡ suc (c.args.count - (c.loop-k._k + 1)) = omega arith in
      let cs : List (ℕ × Value) = (c.low_bits-place.result, c.low_byte-byte.result) ∷ i.0 in (
        cs,
        c.in_ok-store_byte.ensures.bytes env i.0 i.1,
        stored_bytes_same c.args.w _ (c.loop-k.at + 1) _ (c.args.count - (c.loop-k._k + 1)) cs (wrap (c.loop-k.at + 1) c.args.w c.requires)
            ∙ (ap (λ t. stored_bytes c.args.w (c.loop-k.at + 1) t (c.args.count - (c.loop-k._k + 1)) cs) c.high_bytes-higher.ensures
            ∙ (ap (λ t. stored_bytes c.args.w (c.loop-k.at + 1) (high_bytes c.loop-k.rest) (c.args.count - (c.loop-k._k + 1)) ((t, c.low_byte-byte.result) ∷ i.0)) c.low_bits-place.ensures
            ∙ (ap (λ t. stored_bytes c.args.w (c.loop-k.at + 1) (high_bytes c.loop-k.rest) (c.args.count - (c.loop-k._k + 1)) ((c.loop-k.at % 2 ^ c.args.w, t) ∷ i.0)) c.low_byte-byte.ensures
            ∙ (ap (λ t. stored_bytes c.args.w c.loop-k.at c.loop-k.rest t i.0) (sym more) ∙ i.2)))),
      ),
)

pub returns-clause-bytes : goal.returns-clause-bytes
returns-clause-bytes c = λ env bs m.
    let i = c.loop-k.invariant.1 env bs m in
    let none : c.args.count - c.loop-k._k ≡ 0 = omega arith in
    let e = sym (ap (λ t. stored_bytes c.args.w c.loop-k.at c.loop-k.rest t i.0) none) ∙ i.2 in
    subst (λ t. Matches env c.loop-k.self.bytes t) e i.1

pub loop-k-init : goal.loop-k-init
loop-k-init c = (
  refl,
  λ env bs m.
      let all : c.args.count - 0 ≡ c.args.count = omega arith in
      (bs, m, ap (λ t. stored_bytes c.args.w c.args.a c.args.value t bs) all),
)
