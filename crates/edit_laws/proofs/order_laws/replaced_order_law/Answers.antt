use Rattle.edit_laws.proofs.Ordering.{replaced-order-law}
use Rattle.edit_laws.proofs.order_laws.replaced_order_law.Goals as goal

pub returns : goal.returns
returns c = replaced-order-law
