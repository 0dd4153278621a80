use Rattle.std.proofs.Common.{◌&&◌, Bool, true, refl, subst, arith}
use Rattle.meaning.specs.declared.types.Source.{Source}
use Rattle.meaning.specs.Facts.{Knowledge, all_known, reads_known}
use Rattle.alloc_check.specs.Needs.{Adds, Least}
use Rattle.alloc_check.specs.Cells.{asked}
use Rattle.alloc_check.proofs.Least.{pairs-enough-none, pairs-fewest-none, pairs-enough-next, pairs-fewest-next, pairs-enough-all, pairs-fewest-all, reads-step, reads-never}
use Rattle.alloc_check.proofs.needs.add_reads.Goals as goal

abbrev one : Knowledge → Source → Source → Bool
one k s t = k s t

pub returns-then-left-right-clause-least : goal.returns-then-left-right-clause-least
returns-then-left-right-clause-least c = reads-never c.args.left.now c.args.right.now (asked c.args.needs.now) (asked c.args.needs.now) (λ e. c.if-left-right.true e)

pub loop-k-init : goal.loop-k-init
loop-k-init c =
    let init = asked c.args.needs.now in
    (pairs-enough-none reads_known one reads-step init c.args.left.now c.args.right.now, pairs-fewest-none reads_known one reads-step init c.args.left.now c.args.right.now)

pub loop-k-preserved : goal.loop-k-preserved
loop-k-preserved c =
    let init = asked c.args.needs.now in
    let left = c.args.left.now in
    let right = c.args.right.now in
    let old = asked c.loop-k.needs in
    let new = asked c.add.new.self in
    let i = c.loop-k.k in
    let s = c.index-left-k.result in
    let t = c.index-right-k.result in
    let enough : Adds old (λ k. k s t) new = subst (λ x. Adds old (λ k. k x t) new) c.in_ok-copied.ensures (subst (λ y. Adds old (λ k. k c.in_ok-copied.field-0 y) new) c.in_ok-copied-2.ensures c.in_ok-add.ensures.enough) in
    let least : Least (λ k. k s t && all_known k old) true new = subst (λ x. Least (λ k. k x t && all_known k old) true new) c.in_ok-copied.ensures (subst (λ y. Least (λ k. k c.in_ok-copied.field-0 y && all_known k old) true new) c.in_ok-copied-2.ensures c.in_ok-add.ensures.least) in (
      pairs-enough-next reads_known one reads-step init left right old new i s t (omega arith) (omega arith) c.index-left-k.is c.index-right-k.is c.loop-k.invariant.0 enough,
      pairs-fewest-next reads_known one reads-step init left right old new i s t (omega arith) (omega arith) c.index-left-k.is c.index-right-k.is true c.loop-k.invariant.1 least,
    )

pub returns-clause-enough : goal.returns-clause-enough
returns-clause-enough c = λ yes. pairs-enough-all reads_known one reads-step (asked c.args.needs.now) c.args.left.now c.args.right.now (asked c.loop-k.needs) c.loop-k.k (omega arith) (omega arith) (λ k. refl) c.loop-k.invariant.0

pub returns-clause-least : goal.returns-clause-least
returns-clause-least c = pairs-fewest-all reads_known one reads-step (asked c.args.needs.now) c.args.left.now c.args.right.now (asked c.loop-k.needs) c.loop-k.k c.loop-k.invariant.1
