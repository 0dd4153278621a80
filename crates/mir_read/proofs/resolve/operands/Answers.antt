use Rattle.std.proofs.Common.{◌∷◌, [], length-append, sym, arith}
use Rattle.mir_read.specs.Resolving.{operands_named}
use Rattle.mir_read.proofs.Lists.{operand_goes}
use Rattle.mir_read.proofs.resolve.operands.Goals as goal

pub loop-o-preserved : goal.loop-o-preserved
loop-o-preserved c =
    let some = rw c.in-Some.is at c.in_ok-operand.ensures.value in
    let more = rw c.in-Some.is at c.in_ok-operand.ensures.more in
    let given = rw c.in-Some.is at c.in_ok-operand.ensures.given in
    record {
      ranges = omega (arith, more, c.loop-o.invariant.ranges);
      given = omega (arith, given, c.loop-o.invariant.given);
      made = rw c.in_ok-push-in-Some.ensures.ok (omega (arith, length-append c.loop-o.made (c.in-Some.operand ∷ []), c.loop-o.invariant.made));
      same = operand_goes c.args.scope.now.names.now c.args.scope.now.headers.now c.args.scope.now.keyed.now c.loop-o.made c.push.new.self c.loop-o.ranges c.operand.new.ranges c.args.raw.now c.loop-o.o-index c.o-item.result c.in-Some.operand (operands_named c.args.scope.now.names.now c.args.scope.now.headers.now c.args.scope.now.keyed.now c.args.ranges.now c.args.raw.now) c.loop-o.invariant.same c.loop-o-test.true c.o-item.is (sym some) c.in_ok-push-in-Some.ensures.ok;
    }
