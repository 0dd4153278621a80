-- Which points of a piece its end comes at or behind.
use Rattle.std.specs.Prelude.{ℕ, Bool, true, false, not, ◌&&◌, nat_le}
use Rattle.live_lanes.specs.declared.row.PieceEnd.{PieceEnd}
use Rattle.live_lanes.specs.declared.row.PieceEnd.TheVariants as ends
use Rattle.live_lanes.specs.Table.{Numbers, Seen, end_rank, end_in, piece_at}

abbrev pub is_never : PieceEnd → Bool
is_never ends.Never = true
is_never (ends.Entry id) = false
is_never (ends.Exit id) = false
is_never ends.Last = false

-- a piece with this end isn't over before the point of that rank
abbrev pub reaches : Numbers → PieceEnd → ℕ → Bool
reaches slots e at = not (is_never e) && nat_le at (end_rank slots e)

-- a lane in a block is live at the point of that rank
abbrev pub seen_at : Numbers → Seen → ℕ → Bool
seen_at slots v at = reaches slots (end_in v (piece_at slots at v.segments)) at
