use Rattle.std.proofs.Common.{◌≡◌, ◌<◌, ◌-◌, ℕ, suc, ◌&&◌, length, drop, sym, ap, ◌∙◌, subst, arith}
use Rattle.std.specs.Prelude.{not, ◌||◌, nat_eq}
use Rattle.interference.specs.Clashes.{is_taken_by}
use Rattle.interference.specs.Marked.{is_marked}
use Rattle.interference.proofs.Walked.{from-behind}
use Rattle.interference.proofs.held.mark_met.Goals as goal

pub returns-then-last-at-clause-marked : goal.returns-then-last-at-clause-marked
returns-then-last-at-clause-marked c = λ all n a w lt.
    let slots = c.args.slots.now in
    let hs = c.args.stretches.now in
    let i : ℕ = c.stretches.k - 1 in
    let h : i < length hs = omega arith in
    let next : suc i ≡ c.stretches.k = omega arith in
    c.stretches.invariant.marked all w lt ∙ ap (λ b. (not (nat_eq w c.args.but) && b) || is_marked c.args.marks.now.words.items w)
    (ap (λ k. is_taken_by slots (drop k hs) w c.args.at) (sym next) ∙ sym (from-behind slots c.args.at (λ g. nat_eq g.range w) n hs i _ a h (subst (λ x. x < c.args.at.first) c.last.ensures c.if-last-at.true)))
