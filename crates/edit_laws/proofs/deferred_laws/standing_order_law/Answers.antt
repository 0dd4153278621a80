use Rattle.edit_laws.proofs.EditedTable.{standing-order-law}
use Rattle.edit_laws.proofs.deferred_laws.standing_order_law.Goals as goal

pub returns : goal.returns
returns c = standing-order-law
