use Rattle.edit_laws.proofs.Further.{numbers-grow}
use Rattle.edit_laws.proofs.table_laws.rows.Goals as goal

pub returns : goal.returns
returns c = numbers-grow
