use Rattle.split_laws.proofs.Offered.{cut_labels_agree}
use Rattle.split_laws.proofs.cut_law.Goals as goal

pub returns : goal.returns
returns c = cut_labels_agree
