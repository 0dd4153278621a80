use Rattle.live_edits.proofs.Unnamed.{unnamed-law}
use Rattle.live_edits.proofs.aside.unnamed_law.Goals as goal

pub returns : goal.returns
returns c = unnamed-law
