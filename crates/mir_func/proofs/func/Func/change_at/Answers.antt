use Rattle.std.proofs.Common.{sym, ap, refl, arith}
use Rattle.std.specs.Option.{option_map_or}
use Rattle.mir_func.specs.At.{changed_at, operation, with_operation}
use Rattle.mir_func.proofs.Changed.{is_function-replaced}
use Rattle.mir_func.proofs.Places.{set_changed, update_past}
use Rattle.mir_func.proofs.Standing.{instr_nowhere, instrs_read}
use Rattle.mir_func.proofs.func.Func.change_at.Goals as goal

pub invariant_of-self : goal.invariant_of-self
invariant_of-self c =
    is_function-replaced c.args.op c.args.operands c.args.place c.args.position _ _ _ _ (omega arith) c.get_mut.ensures.value c.change_in.ensures.new c.self.invariant

pub returns-then-position-len-clause-new : goal.returns-then-position-len-clause-new
returns-then-position-len-clause-new c =
    rw (← c.self.view_is) (rw (update_past (changed_at c.args.place (with_operation c.args.op c.args.operands)) c.self.inside.blocks c.args.position (omega arith)) refl)

pub returns-then-position-len-clause-old : goal.returns-then-position-len-clause-old
returns-then-position-len-clause-old c =
    rw (← c.self.view_is) (sym (ap (λ o. option_map_or operation o (c.args.op, c.args.operands)) (instr_nowhere c.self.inside.blocks c.args.position c.args.place (omega arith))))

pub returns-clause-new : goal.returns-clause-new
returns-clause-new c =
    let e = set_changed (changed_at c.args.place (with_operation c.args.op c.args.operands)) c.self.inside.blocks c.args.position c.args.position c.get_mut.result.now c.change_in.new.block refl (omega arith) c.get_mut.ensures.value c.change_in.ensures.new in
    rw (← c.self.view_is) (rw e refl)

pub returns-clause-old : goal.returns-clause-old
returns-clause-old c =
    let read = instrs_read c.self.inside.blocks c.args.position c.get_mut.result.now (omega arith) c.get_mut.ensures.value in
    rw (← c.self.view_is) (rw read c.change_in.ensures.old)
