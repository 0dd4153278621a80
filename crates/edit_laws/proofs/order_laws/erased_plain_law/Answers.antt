use Rattle.edit_laws.proofs.Numbered.{erased-plain-law}
use Rattle.edit_laws.proofs.order_laws.erased_plain_law.Goals as goal

pub returns : goal.returns
returns c = erased-plain-law
