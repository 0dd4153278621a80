use Rattle.std.proofs.Common.{◌∙◌}
use Rattle.spiller.proofs.ReadingSets.{keys-listed}
use Rattle.spiller.proofs.remat.reaches_lane.Goals as goal

pub returns : goal.returns
returns c = c.contains.ensures ∙ keys-listed c.args.definition.now.reached.keys c.args.lane c.args.id
