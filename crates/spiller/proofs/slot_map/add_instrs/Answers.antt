use Rattle.std.proofs.Common.{◌∙◌, ap}
use Rattle.std.specs.Prelude.{List, filter_map}
use Rattle.mir_func.specs.declared.func.Operand.{Operand}
use Rattle.mir_func.specs.declared.func.Instr.{Instr}
use Rattle.mir_func.specs.Binding.{as_slot}
use Rattle.spiller.proofs.NumbersTaken.{adds-more, adds-same}
use Rattle.spiller.proofs.slot_map.add_instrs.Goals as goal

pub instrs-preserved : goal.instrs-preserved
instrs-preserved c =
    let named = λ (os : List Operand). filter_map as_slot os in
    adds-more (λ (i : Instr). named i.operands) c.args.instrs.now c.instrs.instr-index c.instr-item.result c.args.taken.now.keys c.instrs.taken.keys c.add_operands.new.taken.keys c.instrs-test.true c.instr-item.is c.instrs.invariant
    (adds-same (named c.as_slice.result.now) (named c.instr-item.result.operands) c.instrs.taken.keys c.add_operands.new.taken.keys (ap named (c.as_slice.ensures ∙ ap (λ (i : Instr). i.operands) c.get-instr.ensures)) c.in_ok-add_operands.ensures)
