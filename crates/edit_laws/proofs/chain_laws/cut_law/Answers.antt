use Rattle.edit_laws.proofs.Chains.{cut-law}
use Rattle.edit_laws.proofs.chain_laws.cut_law.Goals as goal

pub returns : goal.returns
returns c = cut-law
