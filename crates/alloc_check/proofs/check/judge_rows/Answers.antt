use Rattle.std.proofs.Common.{subst}
use Rattle.alloc_check.specs.Families.{HoldsWith, Decides}
use Rattle.alloc_check.proofs.Judged.{judged-refines}
use Rattle.alloc_check.proofs.check.judge_rows.Goals as goal

pub returns-then-branch-clause-exact : goal.returns-then-branch-clause-exact
returns-then-branch-clause-exact c = subst (Decides c.args.t.now c.args.f.now c.args.g.now c.args.rows.now) c.if-branch.true c.in_ok-have_family.ensures

pub returns-then-branch-clause-refines : goal.returns-then-branch-clause-refines
returns-then-branch-clause-refines c =
    let t = c.args.t.now in
    let f = c.args.f.now in
    let g = c.args.g.now in
    let rows = c.args.rows.now in
    let holds : HoldsWith t f g rows = subst (Decides t f g rows) c.if-branch.true c.in_ok-have_family.ensures in
    judged-refines t f g holds.0 rows c.requires holds.1

pub returns-clause-exact : goal.returns-clause-exact
returns-clause-exact c = subst (Decides c.args.t.now c.args.f.now c.args.g.now c.args.rows.now) c.if-branch.false c.in_ok-have_family.ensures

pub lacking_place-requires : goal.lacking_place-requires
lacking_place-requires c = subst (Decides c.args.t.now c.args.f.now c.args.g.now c.args.rows.now) c.if-branch.false c.in_ok-have_family.ensures
