-- Whether a register is free for a range along stretches of a block that are cut at two points.
use Rattle.std.specs.Prelude.{◌≡◌, ℕ, Bool, ◌&&◌, ◌||◌, not, nat_le, List, [], ◌∷◌, filter, max, min}
use Rattle.std.specs.List.{list_all}
use Rattle.target_base.specs.declared.types.Reg.{Reg}
use Rattle.mir_func.specs.declared.func.Block.{Block}
use Rattle.mir_meaning.specs.Points.{Point, block_points}
use Rattle.live_lanes.specs.declared.ask.extent.Stretch.{Stretch}
use Rattle.live_lanes.specs.Table.{Numbers}
use Rattle.interference.specs.declared.matrix.Matrix.{Matrix}
use Rattle.split_choose.specs.Seen.{rank_of}
use Rattle.split_choose.specs.Spans.{is_alone}

-- the points of a stretch between two
abbrev pub cut : ℕ → ℕ → Stretch → Stretch
cut low high s = record { first = max s.first low; last = min s.last high }

-- the points of a block between two ranks, and those of these ranks
abbrev pub points_between : Numbers → ℕ → ℕ → Block → List Point
points_between slots low high b = filter (λ p. nat_le low (rank_of slots p) && nat_le (rank_of slots p) high) (block_points b)

-- nothing else than the range holds a unit of the register along the stretch, or it has no points
abbrev pub is_part_clear : Matrix → ℕ → Reg → ℕ → Stretch → Bool
is_part_clear m v r position s = not (nat_le s.first s.last) || is_alone m v r position (s ∷ [])

-- nothing else does so along stretches of the block at a position, cut at two points
abbrev pub is_clear_between : Matrix → ℕ → Reg → ℕ → List Stretch → ℕ → ℕ → Bool
is_clear_between m v r position ss low high = list_all (λ s. is_part_clear m v r position (cut low high s)) ss
