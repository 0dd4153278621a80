use Rattle.mir_func.specs.Binding.{does, is_terminator}
use Rattle.spiller.proofs.EndsDropped.{none-behind}
use Rattle.spiller.proofs.ends.end_place.Goals as goal

pub returns-in-None : goal.returns-in-None
returns-in-None c = none-behind (does is_terminator c.args.target.now) c.args.instrs.now c.in-None.ensures
