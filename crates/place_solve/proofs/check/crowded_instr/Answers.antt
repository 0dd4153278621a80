use Rattle.std.proofs.Common.{below_more, sym, ◌∙◌}
use Rattle.place_solve.proofs.check.crowded_instr.Goals as goal

pub each-preserved : goal.each-preserved
each-preserved c = below_more _ _ c.each.invariant (sym c.in_ok-is_crowded.ensures ∙ c.if-branch.false)
