use Rattle.std.proofs.Common.{◌≡◌}
use Rattle.evictor.proofs.Uses.{used_here}
use Rattle.evictor.proofs.weights.uses_at.Goals as goal

pub returns-in-Some : goal.returns-in-Some
returns-in-Some c = λ finds s at is.
    let a = c.args in
    let found = c.in-Some.ensures finds s.0 at.1 at.0 s.1 at.2 at.3 is in
    used_here a.live.now.func.blocks a.live.now.table.order.block_of.items a.freqs.now a.v a.id s c.position_of.result c.frequency_at.result c.operand_count.result c.in-Some.instr.now finds.homes at is c.position_of.ensures c.frequency_at.ensures c.operand_count.ensures cc

pub returns-in-None : goal.returns-in-None
returns-in-None c = λ finds s at is.
    let found = c.in-None.ensures finds s.0 at.1 at.0 s.1 at.2 at.3 is in
    cc
