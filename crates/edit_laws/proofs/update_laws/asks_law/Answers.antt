use Rattle.edit_laws.proofs.Asked.{asks-law}
use Rattle.edit_laws.proofs.update_laws.asks_law.Goals as goal

pub returns : goal.returns
returns c = asks-law
