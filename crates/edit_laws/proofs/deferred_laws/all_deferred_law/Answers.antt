use Rattle.edit_laws.proofs.Deferred.{all-deferred-law}
use Rattle.edit_laws.proofs.deferred_laws.all_deferred_law.Goals as goal

pub returns : goal.returns
returns c = all-deferred-law
