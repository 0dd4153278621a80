use Rattle.std.proofs.Common.{◌∙◌, sym, ap, subst}
use Rattle.std.proofs.lemmas.Result.{IfOk-weaker}
use Rattle.mir_func.specs.Value.{Function}
use Rattle.ra_top.specs.Report.Intervals.Told.{AreShort, start_numbers}
use Rattle.ra_top.proofs.report.intervals.text.starts_in.Goals as goal

pub starts_of-requires : goal.starts_of-requires
starts_of-requires c = subst AreShort (sym (c.as_slice.ensures ∙ ap (λ (g : Function). g.blocks) c.f.view_is)) c.requires

pub returns : goal.returns
returns c = IfOk-weaker c.starts_of.result _ _ (λ starts e. e ∙ ap (start_numbers 0) (c.as_slice.ensures ∙ ap (λ (g : Function). g.blocks) c.f.view_is)) c.starts_of.ensures
