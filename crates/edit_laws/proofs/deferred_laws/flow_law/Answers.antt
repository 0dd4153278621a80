use Rattle.edit_laws.proofs.EditedTable.{flow-law}
use Rattle.edit_laws.proofs.deferred_laws.flow_law.Goals as goal

pub returns : goal.returns
returns c = flow-law
