use Rattle.std.proofs.Common.{arith}
use Rattle.phi_elim.proofs.Walks.{piece_more, pieces_all}
use Rattle.phi_elim.proofs.Arriving.{pair_more, pairs_all}
use Rattle.phi_elim.proofs.arrivals.push_inputs.Goals as goal

pub pairs-preserved : goal.pairs-preserved
pairs-preserved c =
    let m = pair_more c.args.blocks.now c.args.to c.pairs.k c.args.inputs.now c.index-inputs-k.result c.index-inputs-k-in-pairs.result (omega arith) c.index-inputs-k.is c.index-inputs-k-in-pairs.is in
    piece_more _ _ _ _ _ _ c.in_ok-push_pair.ensures m c.pairs.invariant

pub returns : goal.returns
returns c = pieces_all _ _ _ (pairs_all c.args.blocks.now c.args.to c.pairs.k c.args.inputs.now (omega arith)) c.pairs.invariant
