use Rattle.std.proofs.Common.{subst}
use Rattle.mir_meaning.specs.declared.Form.TheVariants as forms
use Rattle.pipeline.specs.Guarded.Function.{IfUnfit}
use Rattle.ra_top.proofs.CommandLemmas.Runs.{runs_source, run_limited}
use Rattle.ra_top.proofs.commands.run.ran.Goals as goal

pub returns-in-Ok : goal.returns-in-Ok
returns-in-Ok c = runs_source c.args.target.now c.args.f c.in_ok-copy.copy c.in-Ok.named.live.source.func c.args.n c.args.seed c.in_ok-text_of_run-in-Ok.field-0 c.in_ok-copy.ensures c.in-Ok.ensures.ok.1 c.in-Ok.ensures.ok.2 c.in_ok-text_of_run-in-Ok.ensures

pub returns-in-Err-Limit : goal.returns-in-Err-Limit
returns-in-Err-Limit c = run_limited c.args.target.now c.args.n c.args.seed c.args.f c.in_ok-copy.copy c.in-Err-Limit.limit c.refused.result c.in_ok-copy.ensures (subst (IfUnfit c.args.target.now forms.Source c.in_ok-copy.copy) c.in-Err-Limit.field-0-is c.in-Err-Limit.ensures.err) c.refused.ensures

-- neither comes before places are asked for
pub returns-in-Err-Unassignable : goal.returns-in-Err-Unassignable
returns-in-Err-Unassignable c = absurd (subst (IfUnfit c.args.target.now forms.Source c.in_ok-copy.copy) c.in-Err-Unassignable.field-0-is c.in-Err-Unassignable.ensures.err)

pub returns-in-Err-NotYet : goal.returns-in-Err-NotYet
returns-in-Err-NotYet c = absurd (subst (IfUnfit c.args.target.now forms.Source c.in_ok-copy.copy) c.in-Err-NotYet.field-0-is c.in-Err-NotYet.ensures.err)
