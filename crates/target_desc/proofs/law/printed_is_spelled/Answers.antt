use Rattle.target_desc.proofs.PrintedSpelled.{printed_spelled}
use Rattle.target_desc.proofs.law.printed_is_spelled.Goals as goal

pub returns : goal.returns
returns c = printed_spelled
