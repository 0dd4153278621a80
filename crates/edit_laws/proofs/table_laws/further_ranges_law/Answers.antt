use Rattle.edit_laws.proofs.Further.{further-ranges-law}
use Rattle.edit_laws.proofs.table_laws.further_ranges_law.Goals as goal

pub returns : goal.returns
returns c = further-ranges-law
