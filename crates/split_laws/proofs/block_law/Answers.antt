use Rattle.split_laws.proofs.Offered.{block_labels_agree}
use Rattle.split_laws.proofs.block_law.Goals as goal

pub returns : goal.returns
returns c = block_labels_agree
