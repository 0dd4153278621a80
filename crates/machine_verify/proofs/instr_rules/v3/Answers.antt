use Rattle.std.proofs.Common.{◌∙◌, ap}
use Rattle.std.specs.List.{list_all}
use Rattle.mir_meaning.specs.Rules.{has_class}
use Rattle.machine_verify.proofs.Meant.{v3_is}
use Rattle.machine_verify.proofs.instr_rules.v3.Goals as goal

pub returns : goal.returns
returns c =
    c.have_classes.ensures
    ∙ (ap (λ os. list_all (λ o. has_class c.args.q.now.f.now o.loc) os) c.as_slice.ensures.value
    ∙ v3_is c.args.q.now.target.now c.args.q.now.f.now c.args.a.now c.requires)
