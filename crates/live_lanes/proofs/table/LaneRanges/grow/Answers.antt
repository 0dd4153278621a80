use Rattle.std.proofs.Common.{arith, ◌<◌, ◌≤◌, length, []}
use Rattle.live_lanes.proofs.Basics.{none-among}
use Rattle.live_lanes.proofs.Whole.{grown-more, grown-all}
use Rattle.live_lanes.proofs.table.LaneRanges.grow.Goals as goal
use Rattle.live_lanes.proofs.table.LaneRanges.grow.Goals.{else-spots-test, then-spots-test+then-k-len}

pub spots-init : goal.spots-init
spots-init c = λ code t dead.
    let z = c.in_ok-risen.ensures code c.args.order.now.slots c.args.flow.now t in
    record { grew = z.0; done = z.1; told = λ x a. absurd (none-among x a) }

pub spots-preserved : goal.spots-preserved
spots-preserved c = λ code t dead.
    let risen = c.spots.risen in
    let within : c.spots.k < length risen.items = omega (arith, risen.ok.0, c.len.ensures, c.if-k-len.false) in
    grown-more code c.args.order.now.slots c.args.flow.now c.args.self.now.rows.items c.spots.self.rows.items c.raise_sources.new.self.rows.items c.spots.k c.index-piece.result.now risen.items c.raise_sources.new.risen.items t (c.spots.invariant code t dead) within c.index-piece.ensures c.in_ok-raise_sources.ensures

pub returns : goal.returns
returns c = λ code t dead.
    let risen = c.spots.risen in
    let all : length risen.items ≤ c.spots.k = elim c.spots-test.branch [ else-spots-test w ↦ omega (arith, risen.ok.0, risen.ok.1, risen.small, w.spots-test.false) | then-spots-test+then-k-len w ↦ omega (arith, risen.ok.0, w.len.ensures, w.if-k-len.true) ] in
    grown-all code c.args.order.now.slots c.args.flow.now c.args.self.now.rows.items c.spots.self.rows.items c.spots.k risen.items t dead all (c.spots.invariant code t dead)
