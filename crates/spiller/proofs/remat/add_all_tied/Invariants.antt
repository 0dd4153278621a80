use Rattle.std.proofs.Common.{flat_map, take}
use Rattle.spiller.specs.Listed.{Lists, keyed_tied_uses}
use Rattle.spiller.proofs.remat.add_all_tied.Given as goal

abbrev pub invariant-instrs : goal.invariant-instrs
invariant-instrs l = Lists l.view l.definitions (λ s. flat_map (keyed_tied_uses s) (take l.instr-index l.instrs)) l.fn.readings.items l.readings.items
