use Rattle.std.proofs.Common.{◌≡◌, ◌<◌, ◌∙◌, ap, length, arith}
use Rattle.live_lanes.specs.Ordered.{all_ids}
use Rattle.live_lanes.specs.Spread.{layout_number, number_before}
use Rattle.live_lanes.proofs.Finding.{home-of}
use Rattle.live_lanes.proofs.LayoutNumbers.{lead-below, locate}
use Rattle.live_lanes.proofs.live.LiveFunc.number_of.Goals as goal

pub returns : goal.returns
returns c = λ finds h few.
    let x = c.args.self.now.table in
    let bs = c.args.self.now.func.blocks in
    let id = c.args.id in
    let z = locate bs id h in
    let at = c.position_of.ensures ∙ home-of bs x.order.block_of.items z.place z.index z.block z.instr id finds.homes z.at z.there z.own in
    let index = c.place_of.ensures finds z.place z.index z.block z.instr z.at z.there z.own in
    let before : number_before bs c.position_of.result ≡ number_before bs z.place = ap (number_before bs) at in
    let below : layout_number bs id < length (all_ids bs) = lead-below id (all_ids bs) h in
    let number = z.number in
    let start : c.number_of_block.result ≡ number_before bs c.position_of.result = c.number_of_block.ensures (omega (arith, before, number, below, few)) in
    omega (arith, c.saturating_add.ensures, start, before, index, number, below, few)
