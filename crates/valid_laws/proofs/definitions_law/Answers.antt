use Rattle.valid_laws.proofs.Definitions.{physical-definitions}
use Rattle.valid_laws.proofs.definitions_law.Goals as goal

pub returns : goal.returns
returns c = physical-definitions
