use Rattle.split_kit.proofs.PartLists.{none-behind}
use Rattle.split_kit.proofs.part_edits.before_instr.Goals as goal

pub returns-in-None : goal.returns-in-None
returns-in-None c = none-behind _ c.args.ids.now c.in-None.ensures
