use Rattle.std.proofs.Common.{refl, arith}
use Rattle.mir_func.specs.At.{cut_at}
use Rattle.mir_func.proofs.Changed.{is_function-cut}
use Rattle.mir_func.proofs.Places.{set_changed, update_past}
use Rattle.mir_func.proofs.Standing.{instrs_read}
use Rattle.mir_func.proofs.func.Func.remove_at.Goals as goal

pub invariant_of-self : goal.invariant_of-self
invariant_of-self c =
    is_function-cut c.args.place c.args.position _ _ _ _ (omega arith) c.get_mut.ensures.value c.cut_at.ensures.rest c.self.invariant

pub returns-then-position-len-clause-rest : goal.returns-then-position-len-clause-rest
returns-then-position-len-clause-rest c =
    rw (← c.self.view_is) (rw (update_past (cut_at c.args.place) c.self.inside.blocks c.args.position (omega arith)) refl)

pub returns-clause-value : goal.returns-clause-value
returns-clause-value c =
    let read = instrs_read c.self.inside.blocks c.args.position c.get_mut.result.now (omega arith) c.get_mut.ensures.value in
    rw (← c.self.view_is) (rw read c.cut_at.ensures.value)

pub returns-clause-rest : goal.returns-clause-rest
returns-clause-rest c =
    let e = set_changed (cut_at c.args.place) c.self.inside.blocks c.args.position c.args.position c.get_mut.result.now c.cut_at.new.block refl (omega arith) c.get_mut.ensures.value c.cut_at.ensures.rest in
    rw (← c.self.view_is) (rw e refl)
