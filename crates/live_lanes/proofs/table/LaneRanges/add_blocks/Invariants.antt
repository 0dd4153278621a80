use Rattle.std.proofs.Common.{drop}
use Rattle.std.specs.Ordering.{nat_cmp}
use Rattle.std.specs.BTreeMap.{get}
use Rattle.instr_effects.specs.Numbered.{number_in}
use Rattle.live_lanes.specs.Coded.{entries}
use Rattle.live_lanes.specs.Doing.{doing_of}
use Rattle.live_lanes.specs.Entering.{Enters, blocks_entered}
use Rattle.live_lanes.proofs.table.LaneRanges.add_blocks.Given as goal

abbrev pub invariant-positions : goal.invariant-positions
invariant-positions l = Enters l.fn.self.rows.items l.self.rows.items (blocks_entered (get nat_cmp l.order.positions) l.position (entries (doing_of l.reader.target.now l.reader.func.now (number_in l.reader.lanes.now)) (drop l.position l.blocks)))
