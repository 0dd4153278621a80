use Rattle.std.proofs.Common.{arith}
use Rattle.phi_elim.proofs.Walks.{piece_more, pieces_all}
use Rattle.two_address.proofs.Parts.{pair_more, pairs_all}
use Rattle.two_address.proofs.sequences.parts_of.Goals as goal

pub pairs-preserved : goal.pairs-preserved
pairs-preserved c =
    let m = pair_more c.pairs.k c.args.operands.now c.index-operands-k.result c.index-operands-k-in-pairs.result (omega arith) c.index-operands-k.is c.index-operands-k-in-pairs.is in
    piece_more _ _ _ _ _ _ c.in_ok-push_part.ensures m c.pairs.invariant

pub returns : goal.returns
returns c = pieces_all _ _ _ (pairs_all c.pairs.k c.args.operands.now (omega arith)) c.pairs.invariant
