use Rattle.spiller.specs.Views.{spilling_of}
use Rattle.spiller.proofs.FirstLanes.{whole-named}
use Rattle.spiller.proofs.places.name_own_lanes.Goals as goal

pub returns-in-None-own : goal.returns-in-None-own
returns-in-None-own c slot facts widths same = whole-named (spilling_of c.args.view slot facts) c.args.own c.args.named widths c.in-None.is c.in-None-own.is same
