use Rattle.std.proofs.Common.{◌≡◌, ◌∙◌, ap, sym, map}
use Rattle.live_lanes.specs.Alike.{bounds}
use Rattle.live_lanes.specs.Table.{begun}
use Rattle.live_lanes.proofs.Alike.{outline-same}
use Rattle.live_lanes.proofs.ask.size.have_same_points.Goals as goal

pub returns : goal.returns
returns c = λ e.
    let pieces = ap (map (λ s. bounds (begun s))) (sym c.as_slice.ensures.value) ∙ c.are_all_alike.ensures e ∙ ap (map (λ s. bounds (begun s))) c.as_slice-2.ensures.value in
    (c.if-a-b.false, outline-same c.args.a.now c.args.b.now (c.is_same_end.ensures c.if-not-is_same_end.false) pieces)
