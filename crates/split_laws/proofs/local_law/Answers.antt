use Rattle.split_laws.proofs.Local.{local_labels_agree}
use Rattle.split_laws.proofs.local_law.Goals as goal

pub returns : goal.returns
returns c = local_labels_agree
