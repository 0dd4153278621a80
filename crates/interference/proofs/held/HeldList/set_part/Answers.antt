use Rattle.std.proofs.lemmas.List.{map-set}
use Rattle.interference.specs.Clashes.{part_of}
use Rattle.interference.proofs.held.HeldList.set_part.Goals as goal

pub returns : goal.returns
returns c = map-set part_of c.args.self.now.parts.items c.args.part c.args.stretches
