use Rattle.std.proofs.Common.{◌&&◌, subst}
use Rattle.meaning.specs.Facts.{all_known, known_both}
use Rattle.alloc_check.specs.Needs.{Adds, Least}
use Rattle.alloc_check.specs.Cells.{asked}
use Rattle.alloc_check.proofs.Lawful.{if-more}
use Rattle.alloc_check.proofs.Steps.{taken-leads, taken-least}
use Rattle.alloc_check.proofs.closed.step_both.Goals as goal

pub returns-clause-enough : goal.returns-clause-enough
returns-clause-enough c =
    let middle = asked c.take_written.new.self in
    let end = asked c.add_before.new.needs in
    if-more _ _ c.add_before.result
    (λ yes h x. taken-leads c.args.first.now c.args.second.now (asked c.args.needs.now) c.in_ok-taken.taken middle end c.in_ok-taken.ensures
    (subst (λ fs. Adds middle (λ k. all_known (known_both c.args.first.now c.args.second.now k) fs) end) c.as_slice.ensures (h x)))
    c.add_before.ensures.enough

pub returns-clause-least : goal.returns-clause-least
returns-clause-least c =
    let middle = asked c.take_written.new.self in
    let end = asked c.add_before.new.needs in
    if-more _ _ c.add_before.result
    (λ yes h. taken-least c.args.first.now c.args.second.now (asked c.args.needs.now) c.in_ok-taken.taken middle yes end c.in_ok-taken.ensures
    (subst (λ fs. Least (λ k. all_known (known_both c.args.first.now c.args.second.now k) fs && all_known k middle) yes end) c.as_slice.ensures h))
    c.add_before.ensures.least
