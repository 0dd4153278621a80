use Rattle.alloc_check.specs.Cells.{asked}
use Rattle.alloc_check.proofs.Celled.{puts-all}
use Rattle.alloc_check.proofs.needs.needs_of.Goals as goal

pub returns : goal.returns
returns c k = puts-all k c.args.facts.now (asked c.in_ok-made.made) (asked c.place_all.new.self) c.in_ok-made.ensures (c.in_ok-place_all.ensures k)
