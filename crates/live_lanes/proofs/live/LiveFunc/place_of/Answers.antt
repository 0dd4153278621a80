use Rattle.std.proofs.Common.{◌∙◌, ap}
use Rattle.std.specs.Prelude.{slice_get}
use Rattle.live_lanes.proofs.Finding.{home-of}
use Rattle.live_lanes.proofs.live.LiveFunc.place_of.Goals as goal

pub returns : goal.returns
returns c = λ finds p j b i e f g.
    let at = c.block_of.ensures ∙ home-of c.args.self.now.func.blocks c.args.self.now.table.order.block_of.items p j b i c.args.id finds.homes e f g in
    c.place_in.ensures b (ap (slice_get c.args.self.now.func.blocks) at ∙ e) (finds.ranked p b e) j i f g
