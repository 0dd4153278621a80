use Rattle.std.proofs.Common.{arith, drop, ◌+◌}
use Rattle.std.proofs.lemmas.Grind.{common_steps}
use Rattle.mir_interp.specs.Stands.{symbols_in, symbols_among}
use Rattle.mir_interp.proofs.Naming.{first_seen_append}
use Rattle.mir_interp.proofs.names.add_all_symbols.Goals as goal

pub loop-i-preserved : goal.loop-i-preserved
loop-i-preserved c =
    let a = first_seen_append c.loop-i.names (symbols_in c.get-i.result.now.operands) (symbols_among (drop (c.loop-i.i-index + 1) c.args.instrs.now)) in
    grind (arith, common_steps, a)
