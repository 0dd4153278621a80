use Rattle.std.proofs.Common.{sym, ◌∙◌, arith}
use Rattle.source_text.proofs.Short.{are_at_short}
use Rattle.source_text.proofs.stored.are_at.Goals as goal

pub returns-in-empty : goal.returns-in-empty
returns-in-empty c = sym (are_at_short c.args.target.now c.args.there.now c.args.lanes.now c.lanes.lane-index c.lanes.left.now (omega arith) (omega arith)) ∙ c.lanes.invariant
