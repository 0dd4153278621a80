use Rattle.std.proofs.Common.{◌&&◌, subst}
use Rattle.meaning.specs.Facts.{all_known, operands_known}
use Rattle.alloc_check.specs.Needs.{Adds, Least}
use Rattle.alloc_check.specs.Cells.{asked}
use Rattle.alloc_check.proofs.Lawful.{if-more}
use Rattle.alloc_check.proofs.Steps.{carry-counted}
use Rattle.alloc_check.proofs.closed.before_reads.Goals as goal

pub returns-clause-enough : goal.returns-clause-enough
returns-clause-enough c =
    let middle = asked c.args.needs.now in
    let end = asked c.add_operands.new.needs in
    if-more _ _ c.add_operands.result
    (λ yes h x family r ws vs target exits old leaves. carry-counted family r c.args.left.now c.args.right.now ws vs target exits old middle end leaves
    (subst (λ a. Adds middle (λ k. operands_known k a c.args.right.now) end) c.as_slice.ensures (subst (λ b. Adds middle (λ k. operands_known k c.as_slice.result.now b) end) c.as_slice-2.ensures (h x))))
    c.add_operands.ensures.enough

pub returns-clause-least : goal.returns-clause-least
returns-clause-least c =
    let middle = asked c.args.needs.now in
    let end = asked c.add_operands.new.needs in
    if-more _ _ c.add_operands.result
    (λ yes h. subst (λ a. Least (λ k. operands_known k a c.args.right.now && all_known k middle) yes end) c.as_slice.ensures (subst (λ b. Least (λ k. operands_known k c.as_slice.result.now b && all_known k middle) yes end) c.as_slice-2.ensures h))
    c.add_operands.ensures.least
