use Rattle.std.proofs.Common.{◌≡◌, ◌++◌, map, take, drop}
use Rattle.slot_colour.specs.Colouring.{renamed_instr}
use Rattle.slot_colour.proofs.renamed.rename_instrs.Given as goal

abbrev pub invariant-instrs : goal.invariant-instrs
invariant-instrs l = l.instrs ≡ map (renamed_instr l.taken) (take l.k l.fn.instrs) ++ drop l.k l.fn.instrs
