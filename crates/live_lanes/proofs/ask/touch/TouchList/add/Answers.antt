use Rattle.std.proofs.Common.{refl}
use Rattle.live_lanes.proofs.Touching.{meets-added}
use Rattle.live_lanes.proofs.ask.touch.TouchList.add.Goals as goal

pub returns : goal.returns
returns c = meets-added c.args.slots.now c.args.self.now _ c.args.id c.is_behind.result c.in_ok-push.ensures.items refl c.is_behind.ensures
