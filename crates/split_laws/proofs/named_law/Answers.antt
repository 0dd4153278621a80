use Rattle.split_laws.proofs.TouchedNames.{split_keeps_named}
use Rattle.split_laws.proofs.named_law.Goals as goal

pub returns : goal.returns
returns c = split_keeps_named
