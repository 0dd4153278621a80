use Rattle.join_laws.proofs.TouchedNames.{join_keeps_named, lowered_is_named}
use Rattle.join_laws.proofs.named_law.Goals as goal

pub returns-clause-lowered : goal.returns-clause-lowered
returns-clause-lowered c = lowered_is_named

pub returns-clause-joined : goal.returns-clause-joined
returns-clause-joined c = join_keeps_named
