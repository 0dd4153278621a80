use Rattle.std.proofs.Common.{◌∙◌, ap, length}
use Rattle.mir_func.specs.Binding.{class_of}
use Rattle.split_choose.specs.LongRuns.{near_in, registers_of}
use Rattle.split_choose.proofs.Locals.{registers-are, domain-is}
use Rattle.split_choose.proofs.runs.best_run.Goals as goal

pub returns : goal.returns
returns c parents freqs loc =
    registers-are (near_in c.args.view.m.now c.args.view.v parents) (length c.args.view.places.now) _ (registers_of c.args.view.m.now c.args.view.v) c.best_of.result
    (domain-is c.args.view.m.now c.args.view.v _ _ c.class_of.result _ _ c.live-live.ensures c.target.ensures (c.class_of.ensures ∙ ap (λ f. class_of f c.args.view.v) c.func.ensures) c.in_ok-domain.ensures c.as_slice.ensures.value)
    (c.best_of.ensures parents freqs loc)
