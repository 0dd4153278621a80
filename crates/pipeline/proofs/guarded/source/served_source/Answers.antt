use Rattle.std.proofs.Common.{◌∙◌}
use Rattle.pipeline.proofs.GuardLemmas.Refused.{serving, refused_placed}
use Rattle.pipeline.proofs.guarded.source.served_source.Goals as goal

pub returns-in-Ok-clause-ok : goal.returns-in-Ok-clause-ok
returns-in-Ok-clause-ok c =
    let ok = rw c.get.ensures at c.in_ok-name.ensures.ok in
    (ok.0, c.in-Ok.ensures.func ∙ ok.1, ok.2, serving c.args.target.now c.args.f c.in_ok-name.field-0.live.source.func ok.2 c.requires.classes ok.1 c.in-Ok.ensures.serve_at_ok)

pub returns-in-Err-clause-err : goal.returns-in-Err-clause-err
returns-in-Err-clause-err c =
    let ok = rw c.get.ensures at c.in_ok-name.ensures.ok in
    refused_placed c.args.target.now c.args.f c.in_ok-name.field-0.live.source.func ok.2 c.requires.classes ok.1 c.in_ok-name.field-0.name c.in-Err.stop c.of_places.result c.of_places.ensures ok.0 c.in-Err.ensures.variables c.in-Err.ensures.few_at_unassignable c.in-Err.ensures.unassignable
