use Rattle.std.proofs.Common.{sym, arith}
use Rattle.mir_interp.proofs.Bits.{nothing_beyond}
use Rattle.mir_interp.proofs.numbers.shift_right.Goals as goal

pub returns-then-s-ge128 : goal.returns-then-s-ge128
returns-then-s-ge128 c = sym (nothing_beyond c.args.n c.args.s (omega arith) c.if-s-ge128.true)
