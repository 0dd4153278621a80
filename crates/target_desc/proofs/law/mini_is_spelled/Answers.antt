use Rattle.target_desc.proofs.MiniSpelled.{mini_spelled}
use Rattle.target_desc.proofs.law.mini_is_spelled.Goals as goal

pub returns : goal.returns
returns c = mini_spelled
