use Rattle.std.proofs.Common.{◌∙◌}
use Rattle.interference.specs.Clashes.{held_of}
use Rattle.interference.proofs.Points.{other-meets}
use Rattle.interference.proofs.held.HeldList.meets.Goals as goal

pub returns : goal.returns
returns c = λ filled apart. c.is_some.ensures ∙ other-meets c.args.slots.now (held_of c.args.self.now) c.args.but c.args.at c.other.result (c.other.ensures filled apart)
