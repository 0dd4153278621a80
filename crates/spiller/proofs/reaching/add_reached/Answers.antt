use Rattle.std.proofs.Common.{◌∙◌, ◌++◌, ap, map, flat_map}
use Rattle.live_lanes.specs.Ways.{successors as ways_behind}
use Rattle.live_lanes.proofs.Raised.{on-ok}
use Rattle.spiller.specs.Walks.{reached_at, seen, touches_at}
use Rattle.spiller.proofs.FlowsGathered.{seen-added}
use Rattle.spiller.proofs.reaching.add_reached.Goals as goal

pub returns : goal.returns
returns c =
    let flow = c.args.flow.now in
    let mid = c.add_seen.new.reached.items in
    on-ok c.add_all_seen.result c.add_all_seen.ensures (λ r.
    seen-added (ways_behind c.args.view.live.now.table.flow.items) flow c.args.position c.args.rest.now c.in_ok-blocks.blocks.items c.args.reached.now.items mid c.add_all_seen.new.reached.items c.in_ok-blocks.ensures c.in_ok-add_seen.ensures
    (r ∙ ap (λ qs. mid ++ map (reached_at flow.lane) (flat_map (λ q. seen (touches_at flow.blocks.items q)) qs)) c.as_slice.ensures.value))
