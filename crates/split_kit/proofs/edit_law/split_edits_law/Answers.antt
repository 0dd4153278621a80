use Rattle.split_kit.proofs.SplitLaw.{split-edits-law}
use Rattle.split_kit.proofs.edit_law.split_edits_law.Goals as goal

pub returns : goal.returns
returns c = split-edits-law
