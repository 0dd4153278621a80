use Rattle.std.proofs.Common.{◌∙◌, sym, ap, refl, arith}
use Rattle.mir_func.specs.At.{with_operation}
use Rattle.mir_func.proofs.Places.{set_changed, update_past}
use Rattle.mir_func.proofs.Standing.{operation_past, operation_read}
use Rattle.mir_func.proofs.at.change_in.Goals as goal

pub returns-then-place-len-clause-new : goal.returns-then-place-len-clause-new
returns-then-place-len-clause-new c =
    let b = c.args.block.now in
    ap (λ is. record b { instrs = is }) (sym (update_past (with_operation c.args.op c.args.operands) b.instrs c.args.place (omega arith)))

pub returns-then-place-len-clause-old : goal.returns-then-place-len-clause-old
returns-then-place-len-clause-old c = sym (operation_past c.args.block.now.instrs c.args.place (c.args.op, c.args.operands) (omega arith))

pub returns-clause-new : goal.returns-clause-new
returns-clause-new c =
    let b = c.args.block.now in
    ap (λ is. record b { instrs = is }) (set_changed (with_operation c.args.op c.args.operands) b.instrs c.args.place c.args.place c.get_mut.result.now c.change.new.instr refl (omega arith) c.get_mut.ensures.value c.change.ensures.new)

pub returns-clause-old : goal.returns-clause-old
returns-clause-old c =
    c.change.ensures.old ∙ sym (operation_read c.args.block.now.instrs c.args.place c.get_mut.result.now (c.args.op, c.args.operands) (omega arith) c.get_mut.ensures.value)
