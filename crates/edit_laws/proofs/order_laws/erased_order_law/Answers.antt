use Rattle.edit_laws.proofs.Ordering.{erased-order-law}
use Rattle.edit_laws.proofs.order_laws.erased_order_law.Goals as goal

pub returns : goal.returns
returns c = erased-order-law
