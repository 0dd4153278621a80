use Rattle.edit_laws.proofs.Deferred.{deferred-law}
use Rattle.edit_laws.proofs.deferred_laws.deferred_law.Goals as goal

pub returns : goal.returns
returns c = deferred-law
