use Rattle.spill_laws.proofs.Sites.{sites_apart}
use Rattle.spill_laws.proofs.sites_law.Goals as goal

pub returns : goal.returns
returns c = sites_apart
