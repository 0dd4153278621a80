-- What the table answers of the pieces that begin with blocks, and what is done that keeps it.
use Rattle.std.specs.Prelude.{◌≡◌, ℕ, Bool, false, List, Option, None, Some, length}
use Rattle.live_lanes.specs.declared.row.LaneRange.{LaneRange}
use Rattle.live_lanes.specs.Graph.{is_live}
use Rattle.live_lanes.specs.Entered.{shape, rows_seen, causes}

-- only ends of pieces change
pub record KeepsCauses (old new : List LaneRange) : Type 0 where
  pub causes : (l b n : ℕ) → causes new l b n ≡ causes old l b n
  pub shapes : (l b : ℕ) → shape (rows_seen new l b) ≡ shape (rows_seen old l b)
  pub lanes : length new ≡ length old

-- the lane is marked live at the start of the block at that position, if there are both
abbrev pub marked_at : List LaneRange → Option ℕ → Option ℕ → Bool
marked_at rows None q = false
marked_at rows (Some l) None = false
marked_at rows (Some l) (Some p) = is_live (causes rows l p 0)
