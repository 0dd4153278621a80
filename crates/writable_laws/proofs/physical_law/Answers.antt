use Rattle.writable_laws.proofs.Allocating.{physical_stays_writable, physical_without_slots}
use Rattle.writable_laws.proofs.physical_law.Goals as goal

pub returns-clause-slots : goal.returns-clause-slots
returns-clause-slots c = physical_stays_writable

pub returns-clause-without_slots : goal.returns-clause-without_slots
returns-clause-without_slots c = physical_without_slots
