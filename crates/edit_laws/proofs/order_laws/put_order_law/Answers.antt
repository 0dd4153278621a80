use Rattle.edit_laws.proofs.Ordering.{put-order-law}
use Rattle.edit_laws.proofs.order_laws.put_order_law.Goals as goal

pub returns : goal.returns
returns c = put-order-law
