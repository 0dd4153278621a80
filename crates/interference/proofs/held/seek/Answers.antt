use Rattle.std.proofs.Common.{◌≡◌, ◌<◌, ◌+◌, ◌-◌, ℕ, suc, length, drop, sym, ap, ◌∙◌, subst, arith}
use Rattle.std.specs.Prelude.{slice_get}
use Rattle.std.specs.List.{list_any}
use Rattle.interference.specs.Changes.{is_piece, low_rank}
use Rattle.interference.proofs.Sought.{sought-none, begun-low, get-there}
use Rattle.interference.proofs.held.seek.Goals as goal

pub returns-then-is_piece : goal.returns-then-is_piece
returns-then-is_piece c = λ e n a.
    let hs = c.args.stretches.now in
    let i : ℕ = c.stretches.k - 1 in
    let h : i < length hs = omega arith in
    let back : i + 1 - 1 ≡ i = omega arith in
    (_, omega arith, ap (slice_get hs) back ∙ get-there hs i _ h, sym c.is_piece.ensures ∙ c.if-is_piece.true)

pub returns-then-first : goal.returns-then-first
returns-then-first c = λ e n a.
    let slots = c.args.slots.now in
    let hs = c.args.stretches.now in
    let i : ℕ = c.stretches.k - 1 in
    let h : i < length hs = omega arith in
    let next : suc i ≡ c.stretches.k = omega arith in
    let low = subst (λ x. x < low_rank slots c.args.start) c.first.ensures (subst (λ x. c.first.result < x) e c.if-first.true) in (
      sought-none slots c.args.range c.args.start n hs i _ a h low (ap (λ k. list_any (is_piece c.args.range c.args.start) (drop k hs)) next ∙ c.stretches.invariant),
      begun-low slots c.args.range c.args.start hs i _ h low,
    )
