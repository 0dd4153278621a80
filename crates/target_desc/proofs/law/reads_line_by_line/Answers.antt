use Rattle.target_desc.proofs.FirstFault.{spells_or_fails}
use Rattle.target_desc.proofs.law.reads_line_by_line.Goals as goal

pub returns : goal.returns
returns c = spells_or_fails
