use Rattle.edit_laws.proofs.Numbered.{numbers-edit-law}
use Rattle.edit_laws.proofs.order_laws.numbers_edit_law.Goals as goal

pub returns : goal.returns
returns c = numbers-edit-law
