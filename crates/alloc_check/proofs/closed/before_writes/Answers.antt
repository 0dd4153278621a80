use Rattle.std.proofs.Common.{◌&&◌, true, false, subst}
use Rattle.meaning.specs.Facts.{all_known}
use Rattle.meaning.specs.Agree.{target_holds, ways_hold}
use Rattle.alloc_check.specs.Needs.{Adds, Least}
use Rattle.alloc_check.specs.Cells.{asked}
use Rattle.alloc_check.proofs.Lawful.{if-more}
use Rattle.alloc_check.proofs.Steps.{leave, writes-least, target-never, exits-never}
use Rattle.alloc_check.proofs.closed.before_writes.Goals as goal

pub returns-then-not-branch-clause-least : goal.returns-then-not-branch-clause-least
returns-then-not-branch-clause-least c =
    let family = c.args.family.now in
    let old = asked c.args.needs.now in
    let one = asked c.add_target.new.needs in
    target-never family c.args.leaving.now.first.now c.args.leaving.now.second.now c.args.leaving.now.target.now c.args.leaving.now.exits.now old one one
    (subst (λ b. Least (λ k. target_holds family k c.args.leaving.now.target.now && all_known k old) b one) c.if-not-branch.true c.in_ok-add_target.ensures.least)

pub returns-then-not-branch-2-clause-least : goal.returns-then-not-branch-2-clause-least
returns-then-not-branch-2-clause-least c =
    let family = c.args.family.now in
    let old = asked c.args.needs.now in
    let one = asked c.add_target.new.needs in
    let two = asked c.add_ways.new.needs in
    exits-never family c.args.leaving.now.first.now c.args.leaving.now.second.now c.args.leaving.now.target.now c.args.leaving.now.exits.now old one two two
    (subst (λ b. Least (λ k. target_holds family k c.args.leaving.now.target.now && all_known k old) b one) c.if-not-branch.false c.in_ok-add_target.ensures.least)
    (subst (λ es. Least (λ k. ways_hold family k es && all_known k one) false two) c.as_slice.ensures (subst (λ b. Least (λ k. ways_hold family k c.as_slice.result.now && all_known k one) b two) c.if-not-branch-2.true c.in_ok-add_ways.ensures.least))

pub returns-clause-enough : goal.returns-clause-enough
returns-clause-enough c =
    let family = c.args.family.now in
    let old = asked c.args.needs.now in
    let one = asked c.add_target.new.needs in
    let two = asked c.add_ways.new.needs in
    if-more _ _ c.step_both.result
    (λ yes h x. leave family c.args.leaving.now.first.now c.args.leaving.now.second.now c.args.leaving.now.target.now c.args.leaving.now.exits.now old one two (asked c.step_both.new.needs) (c.in_ok-add_target.ensures.enough c.if-not-branch.false)
    (subst (λ es. Adds one (λ k. ways_hold family k es) two) c.as_slice.ensures (c.in_ok-add_ways.ensures.enough c.if-not-branch-2.false)) (h x))
    c.step_both.ensures.enough

pub returns-clause-least : goal.returns-clause-least
returns-clause-least c =
    let family = c.args.family.now in
    let old = asked c.args.needs.now in
    let one = asked c.add_target.new.needs in
    let two = asked c.add_ways.new.needs in
    if-more _ _ c.step_both.result
    (λ yes h. writes-least family c.args.leaving.now.first.now c.args.leaving.now.second.now c.args.leaving.now.target.now c.args.leaving.now.exits.now old one two (asked c.step_both.new.needs) yes
    (subst (λ b. Least (λ k. target_holds family k c.args.leaving.now.target.now && all_known k old) b one) c.if-not-branch.false c.in_ok-add_target.ensures.least)
    (subst (λ es. Least (λ k. ways_hold family k es && all_known k one) true two) c.as_slice.ensures (subst (λ b. Least (λ k. ways_hold family k c.as_slice.result.now && all_known k one) b two) c.if-not-branch-2.false c.in_ok-add_ways.ensures.least)) h)
    c.step_both.ensures.least
