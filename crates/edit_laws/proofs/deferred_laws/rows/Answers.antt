use Rattle.edit_laws.proofs.DeferredRows.{deferred-make, puts-spare}
use Rattle.edit_laws.proofs.deferred_laws.rows.Goals as goal

pub returns : goal.returns
returns c = record { make = deferred-make; spare = puts-spare }
