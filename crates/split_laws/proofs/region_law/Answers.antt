use Rattle.split_laws.proofs.Offered.{region_labels_agree}
use Rattle.split_laws.proofs.region_law.Goals as goal

pub returns : goal.returns
returns c = region_labels_agree
