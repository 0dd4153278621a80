use Rattle.edit_laws.proofs.OrderSteps.{open-law}
use Rattle.edit_laws.proofs.order_laws.open_law.Goals as goal

pub returns : goal.returns
returns c = open-law
