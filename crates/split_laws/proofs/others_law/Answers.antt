use Rattle.split_laws.proofs.Others.{others_stay}
use Rattle.split_laws.proofs.others_law.Goals as goal

pub returns : goal.returns
returns c = others_stay
