use Rattle.std.proofs.Common.{sym, ◌∙◌}
use Rattle.alloc_check.specs.Cells.{asked}
use Rattle.alloc_check.proofs.Lawful.{added-always, added-has}
use Rattle.alloc_check.proofs.needs.Needs.is_asked.Goals as goal

pub returns-then-always : goal.returns-then-always
returns-then-always c = λ x. added-always (asked c.args.self.now) c.args.fact.now (sym c.always.ensures ∙ x)

pub returns-else-always : goal.returns-else-always
returns-else-always c = λ x. added-has (asked c.args.self.now) c.args.fact.now (c.has.ensures x)
