use Rattle.std.proofs.Common.{◌-◌, arith}
use Rattle.phi_elim.proofs.Placing.{arrival_read_more}
use Rattle.phi_elim.proofs.blocks.put_arriving.Goals as goal

pub each-preserved : goal.each-preserved
each-preserved c =
    arrival_read_more c.args.arrivals.now c.each.a-index c.args.k (c.len.result - c.args.at) c.args.at _ c.args.instrs.now c.each.instrs c.put_arrival.new.instrs (omega arith) c.requires (omega (arith, c.len.ensures)) c.each.invariant c.in_ok-put_arrival.ensures
