use Rattle.std.proofs.Common.{refl, ap}
use Rattle.meaning.specs.Facts.{all_known}
use Rattle.alloc_check.specs.Cells.{asked}
use Rattle.alloc_check.proofs.Steps.{falls-nowhere}
use Rattle.alloc_check.proofs.closed.before_nothing.Goals as goal

pub returns-clause-enough : goal.returns-clause-enough
returns-clause-enough c = λ x family rows s. falls-nowhere family rows (asked c.args.needs.now) (asked c.in_ok-nothing.nothing) s

pub returns-clause-least : goal.returns-clause-least
returns-clause-least c k l h = (refl, ap (all_known k) c.in_ok-nothing.ensures)
