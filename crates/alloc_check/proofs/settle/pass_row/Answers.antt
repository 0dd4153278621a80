use Rattle.std.proofs.Common.{refl, sym, true, subst}
use Rattle.alloc_check.specs.Asking.{asking}
use Rattle.alloc_check.specs.Families.{MeetsRow}
use Rattle.alloc_check.proofs.Asked.{asking-inside, asking-start}
use Rattle.alloc_check.proofs.Passing.{both-ok, inside-other, passed-row}
use Rattle.alloc_check.proofs.settle.pass_row.Goals as goal

pub returns-in_ok-pass_start-in-BothStart : goal.returns-in_ok-pass_start-in-BothStart
returns-in_ok-pass_start-in-BothStart c =
    subst (λ r. MeetsRow c.args.family.now (asking c.args.reads r) c.args.pass.now true c.pass_start.new.family c.pass_start.new.pass) (sym c.in-BothStart.is)
    (subst (λ r. MeetsRow c.args.family.now r c.args.pass.now true c.pass_start.new.family c.pass_start.new.pass) (sym (asking-start c.args.reads _)) c.in_ok-pass_start-in-BothStart.ensures)

pub returns-in_default : goal.returns-in_default
returns-in_default c =
    both-ok _ _ _ c.before_asking.result
    (λ answer enough least. passed-row c.args.family.now (asking c.args.reads c.args.row.now) c.args.pass.now _ (asking-inside c.args.reads c.args.row.now (inside-other c.args.row.now c.in_default.not-BothStart)) refl answer enough least)
    c.before_asking.ensures.enough c.before_asking.ensures.least
