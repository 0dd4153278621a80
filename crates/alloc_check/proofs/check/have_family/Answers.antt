use Rattle.std.proofs.Common.{IfOk, subst, ap, ◌∙◌}
use Rattle.alloc_check.specs.Asking.{asked_to}
use Rattle.alloc_check.specs.Families.{Decides}
use Rattle.alloc_check.proofs.Asked.{asked-all}
use Rattle.alloc_check.proofs.check.have_family.Goals as goal

pub returns-then-branch : goal.returns-then-branch
returns-then-branch c = c.in_ok-finds.ensures c.if-branch.true

pub returns : goal.returns
returns c =
    let rows = c.args.rows.now in
    subst (λ rs. IfOk c.decide.result (Decides c.args.t.now c.args.f.now c.args.g.now rs)) (asked-all rows) c.decide.ensures
