use Rattle.std.proofs.Common.{◌≡◌, ◌+◌, ◌/◌, [], sym, ap, ◌∙◌, subst, arith, drop, get_or, drop_of_length-le, None}
use Rattle.meaning.specs.Perform.{stored, stored_bytes}
use Rattle.mir_interp.specs.Remembers.{Matches}
use Rattle.mir_interp.proofs.Bits.{wrap}
use Rattle.mir_interp.proofs.Loading.{stored_none, store_more}
use Rattle.mir_interp.proofs.external.ExternalState.store.Goals as goal

pub loop-k-preserved : goal.loop-k-preserved
loop-k-preserved c = (
  c.in_ok-store_lane.ensures.calls ∙ c.loop-k.invariant.0,
  λ env bs m.
      let i = c.loop-k.invariant.1 env bs m in (
        stored_bytes c.args.w c.loop-k.at (get_or c.args.lanes.now c.loop-k.k None) (get_or c.args.widths.now c.loop-k.k 0 / 8) i.0,
        c.in_ok-store_lane.ensures.bytes env i.0 i.1,
        store_more c.args.w c.loop-k.at _ c.loop-k.k c.args.widths.now c.args.lanes.now i.0 (omega arith) (omega arith) (wrap (c.loop-k.at + get_or c.args.widths.now c.loop-k.k 0 / 8) c.args.w c.requires) ∙ i.2,
      ),
)

pub returns-then-k-lanes-clause-bytes : goal.returns-then-k-lanes-clause-bytes
returns-then-k-lanes-clause-bytes c = λ env bs m.
    let i = c.loop-k.invariant.1 env bs m in
    let none : drop c.loop-k.k c.args.lanes.now ≡ [] = drop_of_length-le c.args.lanes.now c.if-k-lanes.true in
    let e = sym (stored_none c.args.w c.loop-k.at (drop c.loop-k.k c.args.widths.now) i.0) ∙ (ap (λ t. stored c.args.w c.loop-k.at (drop c.loop-k.k c.args.widths.now) t i.0) (sym none) ∙ i.2) in
    subst (λ t. Matches env c.loop-k.self.bytes t) e i.1

pub returns-clause-bytes : goal.returns-clause-bytes
returns-clause-bytes c = λ env bs m.
    let i = c.loop-k.invariant.1 env bs m in
    let none : drop c.loop-k.k c.args.widths.now ≡ [] = drop_of_length-le c.args.widths.now (omega arith) in
    let e = ap (λ t. stored c.args.w c.loop-k.at t (drop c.loop-k.k c.args.lanes.now) i.0) (sym none) ∙ i.2 in
    subst (λ t. Matches env c.loop-k.self.bytes t) e i.1
