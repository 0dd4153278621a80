use Rattle.split_kit.proofs.PartLists.{none-behind}
use Rattle.split_kit.proofs.block_walk.instrs_in.Goals as goal

pub returns-in-None : goal.returns-in-None
returns-in-None c = none-behind _ c.args.ids.now c.in-None.ensures
