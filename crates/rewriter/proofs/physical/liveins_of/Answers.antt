use Rattle.std.proofs.Common.{◌∙◌, ap}
use Rattle.mir_func.specs.Value.{Function}
use Rattle.rewriter.proofs.physical.liveins_of.Goals as goal

pub returns : goal.returns
returns c = rw (c.as_slice.ensures ∙ ap (λ (x : Function). x.blocks) c.f.view_is) at c.all_liveins.ensures
