use Rattle.edit_laws.proofs.OrderSteps.{removed-law}
use Rattle.edit_laws.proofs.order_laws.removed_law.Goals as goal

pub returns : goal.returns
returns c = removed-law
