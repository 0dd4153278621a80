use Rattle.std.proofs.Common.{ap, subst, ◌∙◌}
use Rattle.meaning.specs.Facts.{all_known, known_at_start}
use Rattle.mir_meaning.specs.Codes.{given_of}
use Rattle.alloc_check.specs.Asking.{asked_to}
use Rattle.alloc_check.specs.Families.{IsPassed, NeverAbove, Passes}
use Rattle.alloc_check.proofs.Passing.{least-none, least-next, decided-never, decided}
use Rattle.alloc_check.proofs.settle.decide.Goals as goal

pub loop-init : goal.loop-init
loop-init c = least-none (asked_to c.args.asking c.args.rows.now) _ c.new-family.ensures

pub returns-in-None : goal.returns-in-None
returns-in-None c =
    let never : NeverAbove c.loop.family (asked_to c.args.asking c.args.rows.now) = subst (Passes c.loop.family (asked_to c.args.asking c.args.rows.now) c.pass_over.new.family) c.in-None.is c.in_ok-pass_over.ensures in
    decided-never c.args.t.now c.args.f.now c.args.g.now (asked_to c.args.asking c.args.rows.now) c.loop.family c.loop.invariant never

pub returns-then-pass : goal.returns-then-pass
returns-then-pass c =
    let rows = asked_to c.args.asking c.args.rows.now in
    let start = known_at_start (given_of c.args.t.now c.args.f.now) (given_of c.args.t.now c.args.g.now) in
    let passed : IsPassed c.loop.family c.pass_over.new.family rows c.in-Some.pass = subst (Passes c.loop.family rows c.pass_over.new.family) c.in-Some.is c.in_ok-pass_over.ensures in
    decided c.args.t.now c.args.f.now c.args.g.now rows c.loop.family c.pass_over.new.family c.in-Some.pass c.loop.invariant passed c.if-pass.true c.all_start.result
    (c.all_start.ensures ∙ ap (all_known start) (c.as_slice-then-pass.ensures ∙ c.in_ok-list-in-Some.ensures))

pub loop-preserved : goal.loop-preserved
loop-preserved c =
    let rows = asked_to c.args.asking c.args.rows.now in
    let passed : IsPassed c.loop.family c.pass_over.new.family rows c.in-Some.pass = subst (Passes c.loop.family rows c.pass_over.new.family) c.in-Some.is c.in_ok-pass_over.ensures in
    least-next rows c.loop.family c.pass_over.new.family c.in-Some.pass c.loop.invariant passed
