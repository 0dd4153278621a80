use Rattle.std.proofs.Common.{◌≡◌, ◌∙◌, ◌∷◌, ap, sym, cond, refl, Some, [], Bool, true, false}
use Rattle.mir_func.specs.Binding.{does, is_terminator}
use Rattle.spiller.specs.Marks.{has_ended}
use Rattle.spiller.specs.Views.{planned, spilling_of}
use Rattle.spiller.specs.WholePlan.{with_place}
use Rattle.spiller.proofs.MarkLoop.{found-is, found-some, if-then, ok-then, single-planned}
use Rattle.spiller.specs.Ends.{ends_of}
use Rattle.spiller.proofs.spilled.change_touched.Goals as goal

pub returns-in-None-clause-ended : goal.returns-in-None-clause-ended
returns-in-None-clause-ended c = λ facts m may is same. absurd (found-some c.args.view m may.may is c.args.id same c.in-None.ensures)

pub returns-in-None-clause-plan : goal.returns-in-None-clause-plan
returns-in-None-clause-plan c = λ facts m may is same. absurd (found-some c.args.view m may.may is c.args.id same c.in-None.ensures)

pub returns-then-is_terminator-clause-ended : goal.returns-then-is_terminator-clause-ended
returns-then-is_terminator-clause-ended c = if-then c.end_block.result _ _ (λ then e facts m may is same.
    let ends : does is_terminator c.args.view.target.now m.instr ≡ true = ap (does is_terminator c.args.view.target.now) (sym (found-is c.args.view m may.may is c.args.id same c.in-Some.ensures)) ∙ (sym c.is_terminator.ensures ∙ c.if-is_terminator.true) in
    e facts m may is same ∙ ap (λ (u : Bool). cond u (Some m.block.number) c.args.ended) (sym ends)) c.end_block.ensures.ended

pub returns-then-is_terminator-clause-plan : goal.returns-then-is_terminator-clause-plan
returns-then-is_terminator-clause-plan c = ok-then c.end_block.result _ _ (λ e facts m may is same.
    let s = spilling_of c.args.view c.args.view.slot facts in
    let old = planned c.args.plan.now in
    let ends : does is_terminator c.args.view.target.now m.instr ≡ true = ap (does is_terminator c.args.view.target.now) (sym (found-is c.args.view m may.may is c.args.id same c.in-Some.ensures)) ∙ (sym c.is_terminator.ensures ∙ c.if-is_terminator.true) in
    e facts m may is same ends
    ∙ ap (λ (u : Bool). cond u (cond (has_ended c.args.ended m.block) old (with_place s m.block (ends_of s.target m.block.instrs) [] old)) (with_place s m.block (m.instr ∷ []) m.left old)) (sym ends)) c.end_block.ensures.plan

pub returns-in_ok-change_single-in-Some-clause-ended : goal.returns-in_ok-change_single-in-Some-clause-ended
returns-in_ok-change_single-in-Some-clause-ended c = λ facts m may is same.
    let ends : does is_terminator c.args.view.target.now m.instr ≡ false = ap (does is_terminator c.args.view.target.now) (sym (found-is c.args.view m may.may is c.args.id same c.in-Some.ensures)) ∙ (sym c.is_terminator.ensures ∙ c.if-is_terminator.false) in
    ap (λ (u : Bool). cond u (Some m.block.number) c.args.ended) (sym ends)

pub returns-in_ok-change_single-in-Some-clause-plan : goal.returns-in_ok-change_single-in-Some-clause-plan
returns-in_ok-change_single-in-Some-clause-plan c = λ facts m may is same.
    single-planned c.args.view m may.may is c.args.id same (spilling_of c.args.view c.args.view.slot facts) c.args.ended c.in-Some.instr.now (planned c.args.plan.now) (planned c.change_single.new.plan) refl
    (found-is c.args.view m may.may is c.args.id same c.in-Some.ensures) (sym c.is_terminator.ensures ∙ c.if-is_terminator.false)
    (λ p j is_block is_instr touched. c.in_ok-change_single-in-Some.ensures facts may p j m.block is_block is_instr (sym c.is_terminator.ensures ∙ c.if-is_terminator.false) touched)
