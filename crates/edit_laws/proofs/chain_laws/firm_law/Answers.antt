use Rattle.edit_laws.proofs.Chains.{firm-law}
use Rattle.edit_laws.proofs.chain_laws.firm_law.Goals as goal

pub returns : goal.returns
returns c = firm-law
