use Rattle.live_edits.proofs.SpotLists.{has-own, only-own}
use Rattle.live_edits.proofs.spots.SpotList.add.Goals as goal

pub returns-then-is_listed-clause-has : goal.returns-then-is_listed-clause-has
returns-then-is_listed-clause-has c = has-own c.args.self.now.spots.items c.args.spot (c.is_listed.ensures c.if-is_listed.true)

pub returns-then-is_listed-clause-only : goal.returns-then-is_listed-clause-only
returns-then-is_listed-clause-only c = only-own c.args.self.now.spots.items c.args.spot
