-- The points that the extents of a lane cover in a block.
use Rattle.std.specs.Prelude.{◌≡◌, ◌≤◌, ℕ, Bool, ◌&&◌, nat_le, List, Some, slice_get}
use Rattle.std.specs.List.{list_any}
use Rattle.meaning.specs.Live.{Among as Member}
use Rattle.mir_func.specs.declared.func.Block.{Block}
use Rattle.mir_func.specs.Value.{Function}
use Rattle.mir_meaning.specs.Points.{Point, Start, Entry, Exit, block_points}
use Rattle.live_lanes.specs.declared.ask.extent.Extent.{Extent}
use Rattle.live_lanes.specs.declared.ask.extent.Stretch.{Stretch}
use Rattle.live_lanes.specs.declared.table.Table.{Table}
use Rattle.live_lanes.specs.Table.{Numbers, entry_rank, exit_rank}
use Rattle.live_lanes.specs.Entered.{rows_seen}
use Rattle.live_lanes.specs.Held.{held_at}
use Rattle.live_lanes.specs.Extents.{extents_in, first_rank, last_rank}

-- the point of that rank lies in the extent
abbrev pub covers : Numbers → ℕ → Extent → Bool
covers slots at e = nat_le (first_rank slots e) at && nat_le at (last_rank slots e)

-- points by their ranks, which rise along a block
abbrev pub rank_of : Numbers → Point → ℕ
rank_of slots (Start n) = 0
rank_of slots (Entry id) = entry_rank slots id
rank_of slots (Exit id) = exit_rank slots id

-- some point of the block has that rank
abbrev pub IsRank : Numbers → Block → ℕ → Type 0
IsRank slots b at = (p : Point) × Member p (block_points b) × (rank_of slots p ≡ at)

-- The extents of each lane in each block cover exactly the points at which the lane is live or occupied. None is empty, and each
-- begins at a point of the block.
pub record AreCovered (f : Function) (x : Table) : Type 0 where
  pub covered : (n p at : ℕ) → list_any (covers x.order.slots at) (extents_in x n p) ≡ held_at x.order.slots (rows_seen x.rows.rows.items n p) at
  pub filled : (n p : ℕ) (e : Extent) → Member e (extents_in x n p) → first_rank x.order.slots e ≤ last_rank x.order.slots e
  pub begins : (n p : ℕ) (e : Extent) → Member e (extents_in x n p) → (b : Block) × (slice_get f.blocks p ≡ Some b) × IsRank x.order.slots b (first_rank x.order.slots e)

-- the number lies in the stretch
abbrev pub LiesIn : Stretch → ℕ → Type 0
LiesIn s at = (s.first ≤ at) × (at ≤ s.last)
