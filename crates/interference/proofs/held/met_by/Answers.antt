use Rattle.std.proofs.Common.{◌≡◌, ◌<◌, ◌-◌, ℕ, suc, length, drop, ap, ◌∙◌, subst, arith}
use Rattle.std.specs.Prelude.{not, nat_eq}
use Rattle.interference.specs.Clashes.{is_taken}
use Rattle.interference.proofs.Walked.{from-behind, met-behind}
use Rattle.interference.proofs.held.met_by.Goals as goal

pub returns-then-last-at : goal.returns-then-last-at
returns-then-last-at c = λ all n a.
    let slots = c.args.slots.now in
    let hs = c.args.stretches.now in
    let i : ℕ = c.stretches.k - 1 in
    let h : i < length hs = omega arith in
    let next : suc i ≡ c.stretches.k = omega arith in (
      from-behind slots c.args.at (λ g. not (nat_eq g.range c.args.but)) n hs i _ a h (subst (λ x. x < c.args.at.first) c.last.ensures c.if-last-at.true) ∙ ap (λ k. is_taken slots (drop k hs) c.args.but c.args.at) next ∙ c.stretches.invariant,
      met-behind slots c.args.at hs i _ h (subst (λ x. x < c.args.at.first) c.last.ensures c.if-last-at.true),
    )
