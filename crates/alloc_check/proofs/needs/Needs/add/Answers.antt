use Rattle.std.proofs.Common.{refl, sym, ◌∙◌}
use Rattle.meaning.specs.Facts.{all_known}
use Rattle.laws.proofs.Following.{both-true}
use Rattle.alloc_check.specs.Cells.{asked}
use Rattle.alloc_check.proofs.Lawful.{ok-more}
use Rattle.alloc_check.proofs.needs.Needs.add.Goals as goal

pub returns-clause-enough : goal.returns-clause-enough
returns-clause-enough c = ok-more c.widen.result (λ e k l h. sym (c.in_ok-place.ensures k) ∙ (sym (e k) ∙ h)) c.widen.ensures

pub returns-then-is_asked-clause-least : goal.returns-then-is_asked-clause-least
returns-then-is_asked-clause-least c k l h = (refl, (both-true (k c.args.fact.0 c.args.fact.1) (all_known k (asked c.args.self.now)) h).1)

pub returns-clause-least : goal.returns-clause-least
returns-clause-least c = ok-more c.widen.result (λ e k l h. (refl, e k ∙ (c.in_ok-place.ensures k ∙ h))) c.widen.ensures
