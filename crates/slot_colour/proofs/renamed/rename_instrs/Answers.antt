use Rattle.std.proofs.Common.{arith}
use Rattle.std.proofs.lemmas.List.Edits.{map_over_more}
use Rattle.slot_colour.specs.Colouring.{renamed_instr}
use Rattle.slot_colour.proofs.renamed.rename_instrs.Goals as goal

pub instrs-preserved : goal.instrs-preserved
instrs-preserved c =
    rw c.rename_instr.ensures (map_over_more (renamed_instr c.args.taken.now) c.args.instrs.now _ c.instrs.k _ (omega arith) c.instrs.invariant c.get_mut.ensures.value)
