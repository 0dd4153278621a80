use Rattle.writable_laws.proofs.Joining.{join_stays_writable, joined_stays_writable}
use Rattle.writable_laws.proofs.joined_law.Goals as goal

pub returns-clause-one : goal.returns-clause-one
returns-clause-one c = join_stays_writable

pub returns-clause-all : goal.returns-clause-all
returns-clause-all c = joined_stays_writable
