use Rattle.live_lanes.specs.Ways.{successors as ways_behind}
use Rattle.spiller.proofs.Walking.{Walked}
use Rattle.spiller.proofs.reaching.blocks_reached.Given as goal

abbrev pub invariant-walk : goal.invariant-walk
invariant-walk l = Walked (ways_behind l.view.live.now.table.flow.items) l.flow.blocks.items l.flow.dead.items l.position l.rest l.starts.items l.work.items l.k
