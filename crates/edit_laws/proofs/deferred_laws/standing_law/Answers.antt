use Rattle.edit_laws.proofs.Standing.{standing-law}
use Rattle.edit_laws.proofs.deferred_laws.standing_law.Goals as goal

pub returns : goal.returns
returns c = standing-law
