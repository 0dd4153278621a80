use Rattle.std.proofs.Common.{arith, length, ◌+◌}
use Rattle.two_address.proofs.Steps.{instr_more, class_more, made_small, operands_left}
use Rattle.two_address.proofs.lower.lower_instrs.Goals as goal

pub each-preserved : goal.each-preserved
each-preserved c =
    let t = c.args.target.now in
    let cs = c.args.classes.now in
    let e = c.in_ok-push_instr.ensures.classes in (
      instr_more t cs (length cs) c.each.i-index c.args.instrs.now c.get-i.result.now c.each.made.items c.push_instr.new.made.items c.each.out.items c.push_instr.new.out.items _ (omega arith) (rw c.get-i.ensures c.i-item.is) e c.in_ok-push_instr.ensures.out c.each.invariant.0,
      class_more t cs (length cs) c.each.i-index c.args.instrs.now c.get-i.result.now c.each.made.items c.push_instr.new.made.items _ (omega arith) (rw c.get-i.ensures c.i-item.is) e c.each.invariant.1,
      omega (arith, made_small t cs (length cs + length c.each.made.items) c.get-i.result.now c.each.made.items c.push_instr.new.made.items e, operands_left c.each.i-index c.args.instrs.now c.get-i.result.now (omega arith) (rw c.get-i.ensures c.i-item.is), c.each.invariant.2),
    )
