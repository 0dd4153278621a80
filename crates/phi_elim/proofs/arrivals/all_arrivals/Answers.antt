use Rattle.std.proofs.Common.{arith}
use Rattle.phi_elim.proofs.Walks.{piece_more}
use Rattle.phi_elim.proofs.Arriving.{blocks_more, instr_count_more, phi_count_small}
use Rattle.phi_elim.proofs.arrivals.all_arrivals.Goals as goal

pub layout-preserved : goal.layout-preserved
layout-preserved c =
    let m = blocks_more c.args.target.now c.args.blocks.now c.layout.to c.layout.b-index c.args.blocks.now c.b-item.result (omega arith) c.b-item.is in
    let n = instr_count_more c.layout.b-index c.args.blocks.now c.b-item.result (omega arith) c.b-item.is in
    let next = rw c.as_slice.ensures at c.in_ok-to.ensures.next in
    let made = rw c.as_slice.ensures at c.in_ok-to.ensures.arrivals in
    (rw next (piece_more _ _ _ _ _ _ made m c.layout.invariant.0), omega (arith, next, n, phi_count_small c.args.target.now c.b-item.result.instrs, c.layout.invariant.1))
