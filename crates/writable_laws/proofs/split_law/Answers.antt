use Rattle.writable_laws.proofs.Splitting.{split_stays_writable}
use Rattle.writable_laws.proofs.split_law.Goals as goal

pub returns : goal.returns
returns c = split_stays_writable
