use Rattle.edit_laws.proofs.Further.{further-lanes-law}
use Rattle.edit_laws.proofs.table_laws.further_lanes_law.Goals as goal

pub returns : goal.returns
returns c = further-lanes-law
