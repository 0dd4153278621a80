use Rattle.std.proofs.Common.{◌≡◌, ◌∙◌, ap, sym, cond, Some, [], Bool, false, true}
use Rattle.spiller.specs.Marks.{has_ended}
use Rattle.spiller.specs.Views.{planned, spilling_of}
use Rattle.spiller.specs.WholePlan.{with_place}
use Rattle.spiller.proofs.MarkLoop.{number-is}
use Rattle.spiller.specs.Ends.{ends_of}
use Rattle.spiller.proofs.spilled.end_block.Goals as goal

pub returns-in_ok-change_ends-clause-ended : goal.returns-in_ok-change_ends-clause-ended
returns-in_ok-change_ends-clause-ended c = λ facts m may is same. ap Some (c.block_number-number.ensures ∙ number-is c.args.view m may.may is c.args.id same)

pub returns-in_ok-change_ends-clause-plan : goal.returns-in_ok-change_ends-clause-plan
returns-in_ok-change_ends-clause-plan c = λ facts m may is same ends.
    let s = spilling_of c.args.view c.args.view.slot facts in
    let e : has_ended c.args.ended m.block ≡ false = sym (c.has_ended.ensures m.block (c.block_number-number.ensures ∙ number-is c.args.view m may.may is c.args.id same)) ∙ c.if-not-has_ended.true in
    c.in_ok-change_ends.ensures facts m may is same ends
    ∙ ap (λ (u : Bool). cond u (planned c.args.plan.now) (with_place s m.block (ends_of c.args.view.target.now m.block.instrs) [] (planned c.args.plan.now))) (sym e)

pub returns-else-not-has_ended-clause-ended : goal.returns-else-not-has_ended-clause-ended
returns-else-not-has_ended-clause-ended c = λ facts m may is same. ap Some (c.block_number-number.ensures ∙ number-is c.args.view m may.may is c.args.id same)

pub returns-else-not-has_ended-clause-plan : goal.returns-else-not-has_ended-clause-plan
returns-else-not-has_ended-clause-plan c = λ facts m may is same ends.
    let s = spilling_of c.args.view c.args.view.slot facts in
    let e : has_ended c.args.ended m.block ≡ true = sym (c.has_ended.ensures m.block (c.block_number-number.ensures ∙ number-is c.args.view m may.may is c.args.id same)) ∙ c.if-not-has_ended.false in
    ap (λ (u : Bool). cond u (planned c.args.plan.now) (with_place s m.block (ends_of c.args.view.target.now m.block.instrs) [] (planned c.args.plan.now))) (sym e)
