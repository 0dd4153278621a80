-- Where a table has the instructions and the blocks of a function, over edits.
use Rattle.std.specs.Prelude.{◌≡◌, ◌<◌, ℕ, List, [], ◌∷◌, ◌++◌, length, take}
use Rattle.std.specs.List.{remove}
use Rattle.std.specs.Ordering.{nat_cmp}
use Rattle.std.specs.BTreeMap.{get}
use Rattle.target_base.specs.declared.types.OpId.{OpId}
use Rattle.target_base.specs.declared.types.Target.{Target}
use Rattle.slot_index.specs.Order.{ids, place, put_after, IsNumbered}
use Rattle.mir_func.specs.declared.func.Block.{Block}
use Rattle.mir_func.specs.declared.func.Gap.{Gap}
use Rattle.mir_func.specs.declared.func.Operand.{Operand}
use Rattle.mir_func.specs.Value.{Function, IsFunction}
use Rattle.mir_func.specs.Edits.{HasBlock, block_place, deleted, gap_place, inserted}
use Rattle.mir_func.specs.At.{instrs_at}
use Rattle.instr_effects.specs.Numbered.{NumbersAll}
use Rattle.live_lanes.specs.declared.table.Table.{Table}
use Rattle.live_lanes.specs.Entered.{IsTableOf}
use Rattle.live_lanes.specs.Flowing.{AreWays}
use Rattle.live_lanes.specs.Laws.{AllMatched}
use Rattle.live_lanes.specs.Ordered.{AreHomes, Settles, all_ids, ids_of, last_id, place_of}
use Rattle.edit_laws.specs.Edits.{Put, Replace, Erase, replaced, KeepsWays}
use Rattle.edit_laws.specs.Kept.{code_in, IsLaidOut}

-- the table has the function's instructions in order, where each of them and each block stands, and the ways between blocks
pub record IsOrdered (t : Target) (f : Function) (x : Table) : Type 0 where
  pub positions : (n : ℕ) → get nat_cmp x.order.positions n ≡ place_of n f.blocks
  pub homes : AreHomes f.blocks x.order.block_of.items
  pub ways : AreWays t (λ n. place_of n f.blocks) f.blocks x.flow.items
  pub layout : ids x.order.slots ≡ all_ids f.blocks
  pub numbered : IsNumbered x.order.slots

-- the ids of the instructions that stand in layout before a place of the block at a position
abbrev pub ids_before : List Block → ℕ → ℕ → List ℕ
ids_before bs position place = all_ids (take position bs) ++ ids_of (take place (instrs_at bs position))

abbrev pub ids_before_gap : Function → Gap → List ℕ
ids_before_gap f gap = let position = block_place gap.block f.blocks in ids_before f.blocks position (gap_place gap.before (instrs_at f.blocks position))

-- the next id comes into the order behind the instruction that stands before the gap, and the position of its block is noted
pub record IsPutInto (f : Function) (gap : Gap) (x y : Table) : Type 0 where
  pub slots : ids y.order.slots ≡ put_after (last_id (ids_before_gap f gap)) f.next_id (ids x.order.slots)
  pub numbered : IsNumbered y.order.slots
  pub homes : Settles x.order.block_of.items y.order.block_of.items (f.next_id ∷ []) (block_place gap.block f.blocks)
  pub room : f.next_id < length x.order.block_of.items
  pub positions : y.order.positions ≡ x.order.positions
  pub flow : y.flow ≡ x.flow

-- the id goes from the order
pub record IsTakenOut (id : ℕ) (x y : Table) : Type 0 where
  pub slots : ids y.order.slots ≡ remove (ids x.order.slots) (place id (ids x.order.slots))
  pub numbered : IsNumbered y.order.slots
  pub homes : y.order.block_of ≡ x.order.block_of
  pub positions : y.order.positions ≡ x.order.positions
  pub flow : y.flow ≡ x.flow

-- an instruction is put into a gap
abbrev pub PutOrderLaw : Type 0
PutOrderLaw =
    (t : Target) (f : Function) (gap : Gap) (op : OpId) (os : List Operand) (x y : Table) → IsFunction f.blocks f.next_id → HasBlock f gap.block → KeepsWays t f (Put gap op os)
    → IsOrdered t f x → IsPutInto f gap x y → IsOrdered t (inserted f gap op os) y

-- one gets another opcode and other operands
abbrev pub ReplacedOrderLaw : Type 0
ReplacedOrderLaw = (t : Target) (f : Function) (id : ℕ) (op : OpId) (os : List Operand) (x : Table) → KeepsWays t f (Replace id op os) → IsOrdered t f x → IsOrdered t (replaced f id op os) x

-- one is erased
abbrev pub ErasedOrderLaw : Type 0
ErasedOrderLaw = (t : Target) (f : Function) (id : ℕ) (x y : Table) → IsFunction f.blocks f.next_id → KeepsWays t f (Erase id) → IsOrdered t f x → IsTakenOut id x y → IsOrdered t (deleted f id) y

-- a table is laid out for a function where it has its lanes and its order, and tells of its code
abbrev pub LaidOutLaw : Type 0
LaidOutLaw =
    (t : Target) (f : Function) (x : Table) → IsFunction f.blocks f.next_id → f.next_id < 4294967296 → length f.blocks < 4294967296 → NumbersAll t f x.lanes → IsOrdered t f x
    → (AllMatched (code_in t f x) → IsTableOf (code_in t f x) x.order.slots x.flow.items x.rows.rows.items) → IsLaidOut t f x
