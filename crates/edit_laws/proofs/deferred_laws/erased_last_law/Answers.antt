use Rattle.edit_laws.proofs.ErasedLast.{erased-last-law}
use Rattle.edit_laws.proofs.deferred_laws.erased_last_law.Goals as goal

pub returns : goal.returns
returns c = erased-last-law
