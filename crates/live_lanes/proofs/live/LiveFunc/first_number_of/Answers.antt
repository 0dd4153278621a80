use Rattle.std.proofs.Common.{sym}
use Rattle.live_lanes.specs.Extents.{extents_in}
use Rattle.live_lanes.proofs.LayoutNumbers.{among-first, begins-first, begins-none}
use Rattle.live_lanes.proofs.live.LiveFunc.first_number_of.Goals as goal

pub returns-in-Some-first_extent : goal.returns-in-Some-first_extent
returns-in-Some-first_extent c = λ o finds within few start.
    let x = c.args.self.now.table in
    let bs = c.args.self.now.func.blocks in
    let d = c.in-Some-first_extent.extent in
    let number = c.number_at.ensures finds few c.args.block start (within c.in-Some.lane c.args.block d (among-first (extents_in x c.in-Some.lane c.args.block) d c.in-Some-first_extent.ensures)) in
    begins-first x bs c.args.v c.args.k c.args.block c.in-Some.lane (sym c.in-Some.ensures) o finds within d c.in-Some-first_extent.ensures c.number_at.result number

pub returns-in-None : goal.returns-in-None
returns-in-None c = λ o finds within few start.
    begins-none c.args.self.now.table c.args.self.now.func.blocks c.args.v c.args.k c.args.block c.in-Some.lane (sym c.in-Some.ensures) c.in-None.ensures
