use Rattle.edit_laws.proofs.Ordering.{laid-out-law}
use Rattle.edit_laws.proofs.order_laws.laid_out_law.Goals as goal

pub returns : goal.returns
returns c = laid-out-law
