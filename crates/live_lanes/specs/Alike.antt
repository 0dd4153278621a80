-- Lanes in blocks, by the points at which they are live or occupied.
use Rattle.std.specs.Prelude.{ℕ, Bool, List, map}
use Rattle.live_lanes.specs.declared.row.PieceEnd.{PieceEnd}
use Rattle.live_lanes.specs.Table.{Begun, Seen}

-- the points of a piece that begins with a writing
pub record Bounds : Type 0 where
  pub start : ℕ
  pub early : Bool
  pub end : PieceEnd

abbrev pub bounds : Begun → Bounds
bounds s = record { start = s.start; early = s.early; end = s.end }

-- the points of a lane in a block
pub record Outline : Type 0 where
  pub end : PieceEnd
  pub pieces : List Bounds

abbrev pub outline : Seen → Outline
outline v = record { end = v.end; pieces = map bounds v.segments }
