-- Runs of touched places.
use Rattle.std.specs.Prelude.{◌≡◌, ◌+◌, ℕ, List, drop, Option, Some, slice_get}
use Rattle.mir_func.specs.declared.func.Instr.{Instr}
use Rattle.mir_func.specs.declared.func.Block.{Block}
use Rattle.live_lanes.specs.declared.table.Table.{Table}
use Rattle.live_lanes.specs.Touching.{FindsInstrs}
use Rattle.split_choose.specs.Offers.{first_id}

-- the instruction that stands right behind the one of that id in its block, if there is one
pub record IsBehind (x : Table) (bs : List Block) (id : ℕ) (before : Option ℕ) : Type 0 where
  pub position : ℕ
  pub place : ℕ
  pub block : Block
  pub instr : Instr
  pub finds : FindsInstrs x bs
  pub found : slice_get bs position ≡ Some block
  pub stands : slice_get block.instrs place ≡ Some instr
  pub named : instr.id ≡ id
  pub behind : before ≡ first_id (drop (place + 1) block.instrs)
