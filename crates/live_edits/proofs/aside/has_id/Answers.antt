use Rattle.std.proofs.Common.{◌∙◌}
use Rattle.live_edits.proofs.RunIds.{keys-has}
use Rattle.live_edits.proofs.aside.has_id.Goals as goal

pub returns : goal.returns
returns c = c.contains.ensures ∙ keys-has c.args.id c.args.ids.now.keys
