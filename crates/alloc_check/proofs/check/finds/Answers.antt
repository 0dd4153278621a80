use Rattle.alloc_check.proofs.Lawful.{if-more}
use Rattle.alloc_check.proofs.check.finds.Goals as goal

pub returns-in-Some : goal.returns-in-Some
returns-in-Some c = if-more _ _ c.holds.result (λ yes h x. (c.in-Some.family, h x)) c.holds.ensures
