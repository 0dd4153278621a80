use Rattle.std.proofs.Common.{arith, ◌≡◌, ◌∙◌, ℕ, List, length, ◌+◌, ◌-◌, ◌<◌, ◌≤◌, Bool, sym, subst}
use Rattle.split_choose.specs.LongRuns.{IsLocal, near_in}
use Rattle.split_choose.proofs.Longest.{IsTail, tail-first, tail-step, tail-far, best-longer, best-kept, none-yet, seen-all}
use Rattle.split_choose.proofs.Locals.{near-told}
use Rattle.split_choose.proofs.runs.longest_run.Goals as goal
use Rattle.split_choose.proofs.runs.longest_run.Goals.{then-is_free_between, else-is_free_between, then-is_longer, else-is_longer}

near : (c : goal.Joined-is_longer) (parents freqs : List ℕ) → IsLocal c.args.view.m.now c.args.view.v parents freqs c.args.view.places.now c.args.view.spans.now → near_in c.args.view.m.now c.args.view.v parents c.args.register (c.places.k - 1) ≡ c.is_free_between.result
near c parents freqs loc =
    near-told c.args.view.m.now c.args.view.v parents freqs c.args.view.places.now c.args.view.spans.now c.args.register c.places.k c.is_free_between.result loc (omega arith) (omega arith)
    (λ p q e g h. c.is_free_between.ensures parents freqs p q loc.finds loc.points loc.touched loc.inside loc.spanned loc.same e g h)

tail : (c : goal.Joined-is_longer) (parents freqs : List ℕ) → IsLocal c.args.view.m.now c.args.view.v parents freqs c.args.view.places.now c.args.view.spans.now → 2 ≤ length c.args.view.places.now
    → IsTail (near_in c.args.view.m.now c.args.view.v parents c.args.register) (length c.args.view.places.now) (c.places.k + 1) c.if-is_free_between.len
tail c parents freqs loc h = elim c.if-is_free_between.branch [
  | then-is_free_between w ↦
      tail-step (near_in c.args.view.m.now c.args.view.v parents c.args.register) (length c.args.view.places.now) c.places.k c.places.len w.saturating_add.result c.saturating_sub-most.result c.if-is_free_between.len (omega arith)
      (c.places.invariant.len parents freqs loc h) (omega arith) (near c parents freqs loc ∙ w.if-is_free_between.true) w.saturating_add.ensures c.places.invariant.most (w.len-is ∙ w.min-len.ensures)
  | else-is_free_between w ↦
      subst (IsTail (near_in c.args.view.m.now c.args.view.v parents c.args.register) (length c.args.view.places.now) (c.places.k + 1)) (sym w.len-is)
      (tail-far (near_in c.args.view.m.now c.args.view.v parents c.args.register) (length c.args.view.places.now) c.places.k h (omega arith) (near c parents freqs loc ∙ w.if-is_free_between.false))
]

pub places-init : goal.places-init
places-init c = record {
  most = c.saturating_sub-most.ensures;
  len = λ parents freqs loc h. tail-first (near_in c.args.view.m.now c.args.view.v parents c.args.register) (length c.args.view.places.now) h;
  best = λ parents freqs loc. none-yet (near_in c.args.view.m.now c.args.view.v parents c.args.register) (length c.args.view.places.now) c.args.register;
}

pub places-preserved : goal.places-preserved
places-preserved c =
    let many : 2 ≤ length c.args.view.places.now = omega arith in
    record {
      most = c.places.invariant.most;
      len = tail c;
      best = λ parents freqs loc. elim c.if-is_longer.branch [
        | then-is_longer w ↦
            best-longer (near_in c.args.view.m.now c.args.view.v parents c.args.register) (length c.args.view.places.now) c.args.register c.places.k c.if-is_free_between.len w.saturating_add-then-is_longer.result w.saturating_sub.result c.places.best c.if-is_longer.best (omega arith)
            (tail c parents freqs loc many) (omega arith) (c.places.invariant.best parents freqs loc) (sym c.is_longer.ensures ∙ w.if-is_longer.true) w.saturating_add-then-is_longer.ensures w.saturating_sub.ensures w.best-is
        | else-is_longer w ↦
            best-kept (near_in c.args.view.m.now c.args.view.v parents c.args.register) (length c.args.view.places.now) c.args.register c.places.k c.if-is_free_between.len c.places.best c.if-is_longer.best
            (tail c parents freqs loc many) (c.places.invariant.best parents freqs loc) (sym c.is_longer.ensures ∙ w.if-is_longer.false) w.best-is
      ];
    }

pub returns : goal.returns
returns c parents freqs loc =
    seen-all (near_in c.args.view.m.now c.args.view.v parents c.args.register) (length c.args.view.places.now) c.args.register c.places.k c.places.best (omega arith) (c.places.invariant.best parents freqs loc)
