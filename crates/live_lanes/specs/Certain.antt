-- Pieces of a row with readings that need no other lane.
use Rattle.std.specs.Prelude.{◌≡◌, ℕ, true, false, cond, nat_eq, List, map, Some, slice_get}
use Rattle.live_lanes.specs.declared.row.Cell.{Cell}
use Rattle.mir_meaning.specs.Paths.{Among}
use Rattle.live_lanes.specs.Graph.{is_live}
use Rattle.live_lanes.specs.Table.{seen_in, cause_in, certain_cause, with_cause}

-- the positions of the blocks that have a cell of the lane
abbrev pub blocks_of : List Cell → List ℕ
blocks_of cells = map (λ c. c.block) cells

-- a row whose piece gets a cause where it needs no other lane
pub record RaisesCertain (old new : List Cell) (block index : ℕ) : Type 0 where
  pub there : Among block (blocks_of old)
  pub dead : is_live (cause_in (seen_in old block) index) ≡ false
  pub certain : is_live (certain_cause (seen_in old block) index) ≡ true
  pub seen : (b : ℕ) → seen_in new b ≡ cond (nat_eq block b) (with_cause (seen_in old block) index (certain_cause (seen_in old block) index)) (seen_in old b)

pub record KeepsCertain (old new : List Cell) (place index : ℕ) : Type 0 where
  pub seen : (b : ℕ) → seen_in new b ≡ seen_in old b
  pub done : (b : ℕ) → slice_get (blocks_of old) place ≡ Some b → is_live (certain_cause (seen_in old b) index) ≡ true → is_live (cause_in (seen_in old b) index) ≡ true
