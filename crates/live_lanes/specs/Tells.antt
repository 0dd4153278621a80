-- That what a table tells of the instructions which name a range is what the function says.
use Rattle.std.specs.Prelude.{◌≡◌, ℕ, List, map, filter, flat_map}
use Rattle.mir_func.specs.Value.{Function}
use Rattle.mir_meaning.specs.Points.{touches}
use Rattle.live_lanes.specs.declared.table.Table.{Table}
use Rattle.live_lanes.specs.Touching.{AreTouched, FindsInstrs}

-- the instructions that touch the range, in layout order
abbrev pub touching_ids : Function → ℕ → List ℕ
touching_ids f v = map (λ i. i.id) (filter (touches v) (flat_map (λ b. b.instrs) f.blocks))

-- what the table has of the range's lanes names these instructions
abbrev pub TellsTouched : Table → Function → ℕ → Type 0
TellsTouched x f v = (ids : List ℕ) → AreTouched x v ids → ids ≡ touching_ids f v

-- the table tells where instructions stand and which of them touch a range
pub record TellsInstrs (f : Function) (x : Table) : Type 0 where
  pub finds : FindsInstrs x f.blocks
  pub touched : (v : ℕ) → TellsTouched x f v
