use Rattle.std.proofs.Common.{arith, length-set}
use Rattle.phi_elim.proofs.Arriving.{phi_count_small}
use Rattle.phi_elim.proofs.Placing.{block_more, instr_count_left}
use Rattle.phi_elim.proofs.phis.lower_blocks.Goals as goal

pub layout-preserved : goal.layout-preserved
layout-preserved c =
    let t = c.args.target.now in
    let x = c.get_mut.result.now in
    let y = c.lower_block.new.block in
    let more = block_more t c.args.arrivals.now c.layout.c c.layout.k c.layout.blocks _ x y (omega arith) c.get_mut.ensures.value c.in_ok-c.ensures.block c.layout.invariant.0 in
    let n = instr_count_left c.layout.k c.layout.blocks x y (omega arith) c.get_mut.ensures.value in
    (rw c.in_ok-c.ensures.next more, omega (arith, n, c.in_ok-c.ensures.next, phi_count_small t x.instrs, c.layout.invariant.1), rw length-set c.layout.invariant.2)
