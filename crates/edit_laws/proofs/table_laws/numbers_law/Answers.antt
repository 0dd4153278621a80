use Rattle.edit_laws.proofs.Numbers.{numbers-law}
use Rattle.edit_laws.proofs.table_laws.numbers_law.Goals as goal

pub returns : goal.returns
returns c = numbers-law
