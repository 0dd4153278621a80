use Rattle.std.proofs.Common.{sym, arith}
use Rattle.mir_interp.specs.Holds.{held_by}
use Rattle.mir_interp.proofs.Reading.{operand_past, operand_beyond, operand_by}
use Rattle.mir_interp.proofs.fetch.RunContext.operand.Goals as goal

pub returns-then-k-width_count : goal.returns-then-k-width_count
returns-then-k-width_count g c = λ n env h. sym (operand_past c.args.widths.now _ c.args.k (omega arith))

pub returns-then-k-read_count : goal.returns-then-k-read_count
returns-then-k-read_count g c = λ n env h. sym (operand_beyond env (held_by c.args.store.now) c.args.widths.now c.args.reads.now c.args.k (omega arith))

pub returns : goal.returns
returns g c = λ n env h.
    operand_by env (held_by c.args.store.now) c.args.widths.now c.args.reads.now c.args.k c.get-own.result.now c.get-picked.result.now c.as_slice-own_widths.result.now c.as_slice-sources.result.now c.in_ok-number.number (omega arith) (omega arith) c.get-own.ensures c.get-picked.ensures c.as_slice-own_widths.ensures c.as_slice-sources.ensures (c.in_ok-number.ensures n env h)
