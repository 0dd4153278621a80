use Rattle.std.proofs.Common.{sym, ◌∙◌, ap}
use Rattle.live_lanes.specs.Entered.{rows_seen}
use Rattle.live_lanes.proofs.Growth.{piece-law}
use Rattle.live_lanes.proofs.Raised.{on-ok}
use Rattle.live_lanes.proofs.Sources.{sources-first, sources-none, sources-moved, moved-segment, moved-in}
use Rattle.live_lanes.proofs.table.LaneRanges.raise_sources.Goals as goal

pub returns-then-piece-eq0 : goal.returns-then-piece-eq0
returns-then-piece-eq0 c =
    let x = c.args.piece in
    on-ok c.raise_predecessors.result c.raise_predecessors.ensures (λ r code t live. sources-first code c.args.order.now.slots c.args.flow.now c.args.self.now.rows.items c.raise_predecessors.new.self.rows.items x.lane x.block x.index c.args.risen.now.items c.raise_predecessors.new.risen.items t c.if-piece-eq0.true live r)

pub returns-in-Some : goal.returns-in-Some
returns-in-Some c =
    let x = c.args.piece in
    let old = c.args.self.now.rows.items in
    on-ok c.raise.result c.raise.ensures (λ r code t live.
    let m = moved-segment (rows_seen old x.lane x.block) x.index c.in-Some.id c.in-Some.from (sym c.in-Some.ensures) in
    let slots = c.args.order.now.slots in
    let within = moved-in code slots c.args.flow.now old c.raise.new.self.rows.items x.lane x.block x.index c.in-Some.id c.in-Some.from c.args.risen.now.items c.raise.new.risen.items t live m in
    sources-moved code slots c.args.flow.now old c.raise.new.self.rows.items x.lane x.block x.index c.in-Some.id c.in-Some.from c.args.risen.now.items c.raise.new.risen.items t live m (r within (piece-law code slots c.args.flow.now old t c.in-Some.from x.block)))

pub returns-in-None : goal.returns-in-None
returns-in-None c = λ code t live.
    let x = c.args.piece in
    sources-none code c.args.order.now.slots c.args.flow.now c.args.self.now.rows.items t x.lane x.block x.index c.args.risen.now.items c.if-piece-eq0.false (sym c.in-None.ensures)
