use Rattle.std.proofs.Common.{◌≡◌, take}
use Rattle.spiller.specs.Listed.{readers}
use Rattle.spiller.specs.Views.{way_of}
use Rattle.spiller.proofs.remat.readers_of.Given as goal

abbrev pub invariant-instrs : goal.invariant-instrs
invariant-instrs l = l.by.items ≡ readers l.view (way_of l.view.v l.way) (take l.instr-index l.instrs)
