-- The bundles that are linked along the ways of a computed table are those of the function's edges.
use Rattle.live_lanes.specs.Ways.{successors}
use Rattle.live_laws.proofs.Effects.Blocks.{numbers-apart}
use Rattle.split_choose.proofs.Bordered.{joined-tests}
use Rattle.alloc_laws.proofs.Offers.Places.{placed-first}
use Rattle.alloc_laws.proofs.Offers.Ways.{ways-found}
use Rattle.alloc_laws.specs.Views.{BundlesShownLaw}

pub bundles-shown : BundlesShownLaw
bundles-shown t f x computed rules few parents bundles =
    let ways = ways-found t f x computed rules few in
    joined-tests f.blocks (successors x.flow.items) (placed-first f.blocks (numbers-apart f rules.blocks)) ways.led ways.ways parents bundles
