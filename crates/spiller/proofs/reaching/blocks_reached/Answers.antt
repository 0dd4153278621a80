use Rattle.std.proofs.Common.{◌≤◌, ◌<◌, ap, ◌∙◌, length, subst, arith, [], cond}
use Rattle.live_lanes.specs.Ways.{successors as ways_behind}
use Rattle.spiller.specs.Walks.{Spreads, keeps, touches_at}
use Rattle.spiller.proofs.Walking.{walked-none, walked-at, walked-all}
use Rattle.spiller.proofs.reaching.blocks_reached.Goals as goal
use Rattle.spiller.proofs.reaching.blocks_reached.Goals.{else-walk-test, then-walk-test+then-k-len}

pub walk-init : goal.walk-init
walk-init c =
    let ways = ways_behind c.args.view.live.now.table.flow.items in
    let dead = c.args.flow.now.dead.items in
    let rest = c.args.rest.now in
    let to = cond (keeps rest) (ways c.args.position) [] in
    walked-none ways c.args.flow.now.blocks.items dead c.args.position rest c.leave.new.starts.items c.leave.new.work.items
    (subst (λ ms. Spreads ms [] c.leave.new.starts.items c.leave.new.work.items to) (c.in_ok-starts.ensures.items ∙ c.as_slice.ensures.value)
    (subst (λ ws. Spreads c.in_ok-starts.starts.items ws c.leave.new.starts.items c.leave.new.work.items to) c.new-work.ensures.items c.in_ok-leave.ensures))

pub walk-preserved : goal.walk-preserved
walk-preserved c =
    let ways = ways_behind c.args.view.live.now.table.flow.items in
    let work = c.walk.work in
    let within : c.walk.k < length work.items = omega (arith, work.ok.0, c.len.ensures, c.if-k-len.false) in
    let there = c.touches_at-touches.ensures ∙ ap (λ bs. touches_at bs c.index-at.result.now) c.as_slice-in-walk.ensures.value in
    walked-at ways c.args.flow.now.blocks.items c.args.flow.now.dead.items c.args.position c.args.rest.now c.walk.starts.items c.leave-in-walk.new.starts.items work.items c.leave-in-walk.new.work.items c.walk.k c.index-at.result.now within c.index-at.ensures c.walk.invariant
    (subst (λ ts. Spreads c.walk.starts.items work.items c.leave-in-walk.new.starts.items c.leave-in-walk.new.work.items (cond (keeps ts) (ways c.index-at.result.now) [])) there c.in_ok-leave-2.ensures)

pub returns : goal.returns
returns c =
    let work = c.walk.work in
    let all : length work.items ≤ c.walk.k = elim c.walk-test.branch [ else-walk-test w ↦ omega (arith, work.ok.0, work.ok.1, work.small, w.walk-test.false) | then-walk-test+then-k-len w ↦ omega (arith, work.ok.0, w.len.ensures, w.if-k-len.true) ] in
    walked-all (ways_behind c.args.view.live.now.table.flow.items) c.args.flow.now.blocks.items c.args.flow.now.dead.items c.args.position c.args.rest.now c.walk.starts.items work.items c.walk.k all c.walk.invariant
