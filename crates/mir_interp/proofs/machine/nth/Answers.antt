use Rattle.std.proofs.Common.{arith, sym}
use Rattle.mir_interp.proofs.Writing.{nth_past, nth_there}
use Rattle.mir_interp.proofs.machine.nth.Goals as goal

pub returns-then-k-values : goal.returns-then-k-values
returns-then-k-values c = sym (nth_past c.args.values.now c.args.n (omega arith))

pub returns : goal.returns
returns c = sym (nth_there c.args.values.now c.args.n (omega arith))
