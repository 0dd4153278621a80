use Rattle.std.proofs.Common.{◌∙◌, ap}
use Rattle.std.specs.Prelude.{◌&&◌, ◌||◌, not}
use Rattle.std.specs.List.{list_all}
use Rattle.mir_meaning.specs.Rules.{index_fits, subregs_fit}
use Rattle.mir_func.specs.Binding.{puts_together}
use Rattle.machine_verify.proofs.Meant.{v4_is}
use Rattle.machine_verify.proofs.instr_rules.v4.Goals as goal

pub returns : goal.returns
returns c =
    let t = c.args.q.now.target.now in
    let f = c.args.q.now.f.now in
    let a = c.args.a.now in
    c.have_right_indexes.ensures
    ∙ (ap (λ os. list_all (λ o. index_fits t f o.loc o.index) c.as_slice-2.result.now && (not (puts_together a.desc.now.effect) || subregs_fit t f os)) c.as_slice.ensures
    ∙ (ap (λ os. list_all (λ o. index_fits t f o.loc o.index) os && (not (puts_together a.desc.now.effect) || subregs_fit t f a.instr.now.operands)) c.as_slice-2.ensures.value
    ∙ v4_is t f a c.requires))
