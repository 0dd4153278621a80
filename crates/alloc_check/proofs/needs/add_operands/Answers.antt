use Rattle.std.proofs.Common.{◌&&◌, true, false, refl, subst, arith}
use Rattle.meaning.specs.Facts.{all_known, reads_known, operands_known}
use Rattle.alloc_check.specs.Needs.{Adds, Least}
use Rattle.alloc_check.specs.Cells.{asked}
use Rattle.alloc_check.proofs.Least.{pairs-enough-none, pairs-fewest-none, pairs-enough-next, pairs-fewest-next, pairs-fewest-never, pairs-enough-all, pairs-fewest-all, operands-step, operands-never}
use Rattle.alloc_check.proofs.needs.add_operands.Goals as goal

pub returns-then-left-right-clause-least : goal.returns-then-left-right-clause-least
returns-then-left-right-clause-least c = operands-never c.args.left.now c.args.right.now (asked c.args.needs.now) (asked c.args.needs.now) (λ e. c.if-left-right.true e)

pub loop-k-init : goal.loop-k-init
loop-k-init c =
    let init = asked c.args.needs.now in
    (pairs-enough-none operands_known reads_known operands-step init c.args.left.now c.args.right.now, pairs-fewest-none operands_known reads_known operands-step init c.args.left.now c.args.right.now)

pub loop-k-preserved : goal.loop-k-preserved
loop-k-preserved c =
    let init = asked c.args.needs.now in
    let left = c.args.left.now in
    let right = c.args.right.now in
    let old = asked c.loop-k.needs in
    let new = asked c.add_reads.new.needs in
    let ss = c.index-left-k.result in
    let ts = c.index-right-k.result in
    let enough : Adds old (λ k. reads_known k ss ts) new =
    subst (λ x. Adds old (λ k. reads_known k x ts) new) c.as_slice.ensures (subst (λ y. Adds old (λ k. reads_known k c.as_slice.result.now y) new) c.as_slice-in-loop-k.ensures (c.in_ok-add_reads.ensures.enough c.if-not-branch.false)) in
    let least : Least (λ k. reads_known k ss ts && all_known k old) true new =
    subst (λ b. Least (λ k. reads_known k ss ts && all_known k old) b new) c.if-not-branch.false
    (subst (λ x. Least (λ k. reads_known k x ts && all_known k old) c.in_ok-add_reads.field-0 new) c.as_slice.ensures (subst (λ y. Least (λ k. reads_known k c.as_slice.result.now y && all_known k old) c.in_ok-add_reads.field-0 new) c.as_slice-in-loop-k.ensures c.in_ok-add_reads.ensures.least)) in (
      pairs-enough-next operands_known reads_known operands-step init left right old new c.loop-k.k ss ts (omega arith) (omega arith) c.index-left-k.is c.index-right-k.is c.loop-k.invariant.0 enough,
      pairs-fewest-next operands_known reads_known operands-step init left right old new c.loop-k.k ss ts (omega arith) (omega arith) c.index-left-k.is c.index-right-k.is true c.loop-k.invariant.1 least,
    )

pub returns-then-not-branch-clause-least : goal.returns-then-not-branch-clause-least
returns-then-not-branch-clause-least c =
    let init = asked c.args.needs.now in
    let old = asked c.loop-k.needs in
    let new = asked c.add_reads.new.needs in
    let ss = c.index-left-k.result in
    let ts = c.index-right-k.result in
    let least : Least (λ k. reads_known k ss ts && all_known k old) false new =
    subst (λ b. Least (λ k. reads_known k ss ts && all_known k old) b new) c.if-not-branch.true
    (subst (λ x. Least (λ k. reads_known k x ts && all_known k old) c.in_ok-add_reads.field-0 new) c.as_slice.ensures (subst (λ y. Least (λ k. reads_known k c.as_slice.result.now y && all_known k old) c.in_ok-add_reads.field-0 new) c.as_slice-in-loop-k.ensures c.in_ok-add_reads.ensures.least)) in
    pairs-fewest-never operands_known reads_known operands-step init c.args.left.now c.args.right.now old new c.loop-k.k ss ts (omega arith) (omega arith) c.index-left-k.is c.index-right-k.is c.loop-k.invariant.1 least

pub returns-clause-enough : goal.returns-clause-enough
returns-clause-enough c = λ yes. pairs-enough-all operands_known reads_known operands-step (asked c.args.needs.now) c.args.left.now c.args.right.now (asked c.loop-k.needs) c.loop-k.k (omega arith) (omega arith) (λ k. refl) c.loop-k.invariant.0

pub returns-clause-least : goal.returns-clause-least
returns-clause-least c = pairs-fewest-all operands_known reads_known operands-step (asked c.args.needs.now) c.args.left.now c.args.right.now (asked c.loop-k.needs) c.loop-k.k c.loop-k.invariant.1
