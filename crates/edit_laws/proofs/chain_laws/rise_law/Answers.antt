use Rattle.edit_laws.proofs.Chains.{rise-law}
use Rattle.edit_laws.proofs.chain_laws.rise_law.Goals as goal

pub returns : goal.returns
returns c = rise-law
