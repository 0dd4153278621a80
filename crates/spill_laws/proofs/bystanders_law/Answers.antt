use Rattle.spill_laws.proofs.Bystanders.{bystanders_stand}
use Rattle.spill_laws.proofs.bystanders_law.Goals as goal

pub returns : goal.returns
returns c = bystanders_stand
