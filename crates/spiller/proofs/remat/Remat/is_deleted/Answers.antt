use Rattle.std.proofs.Common.{◌∙◌}
use Rattle.live_edits.proofs.RunIds.{keys-has}
use Rattle.spiller.proofs.remat.Remat.is_deleted.Goals as goal

pub returns : goal.returns
returns c = c.contains.ensures ∙ keys-has c.args.id c.args.self.now.deleted.keys
