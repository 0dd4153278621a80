-- A function and the order of its instructions while edits are done to it.
use Rattle.std.specs.Prelude.{◌≡◌, ◌≢◌, ◌<◌, ◌≤◌, ℕ, true, false, List, [], ◌∷◌, ◌++◌, Option, None, Some, length, slice_index}
use Rattle.std.specs.List.{remove}
use Rattle.std.specs.Ordering.{nat_cmp}
use Rattle.std.specs.BTreeMap.{get}
use Rattle.target_base.specs.declared.types.OpId.{OpId}
use Rattle.slot_index.specs.Order.{ids, number_of, place, put_after, Has, IsNumbered}
use Rattle.live_lanes.specs.Table.{Numbers}
use Rattle.mir_func.specs.declared.func.Gap.{Gap}
use Rattle.mir_func.specs.declared.func.Instr.{Instr}
use Rattle.mir_func.specs.declared.func.Operand.{Operand}
use Rattle.mir_func.specs.Value.{Function}
use Rattle.mir_func.specs.At.{instrs_at, instr_at, has_room_at, inserted_at, retracted_at, replaced_at}
use Rattle.mir_func.specs.Edits.{HasBlock, block_place, inserted}
use Rattle.mir_meaning.specs.Paths.{has}
use Rattle.live_lanes.specs.declared.order.Order.{Order}
use Rattle.live_lanes.specs.Ordered.{AreHomes, all_ids, ids_of, place_of}
use Rattle.edit_laws.specs.Deferred.{all_deleted}
use Rattle.edit_laws.specs.Edits.{replaced}
use Rattle.live_edits.specs.declared.draft.Draft.{Draft}
use Rattle.live_edits.specs.declared.draft.FormerInstr.{FormerInstr}
use Rattle.live_edits.specs.declared.draft.FormerInstr.TheVariants as formers

-- the order has the function's instructions, and where each of them and each block stands
pub record IsOrderOf (f : Function) (o : Order) : Type 0 where
  pub positions : (n : ℕ) → get nat_cmp o.positions n ≡ place_of n f.blocks
  pub homes : AreHomes f.blocks o.block_of.items
  pub layout : ids o.slots ≡ all_ids f.blocks
  pub numbered : IsNumbered o.slots

-- a gap of a block that is there: at its end, or before an instruction of it
pub record HasGap (f : Function) (gap : Gap) : Type 0 where
  pub block : HasBlock f gap.block
  pub before : (id : ℕ) → gap.before ≡ Some id → has id (ids_of (instrs_at f.blocks (block_place gap.block f.blocks))) ≡ true

-- where the instruction of an id stands: the position of its block, and its place there; none where no instruction has the id
abbrev pub IsPlaceOf : Function → ℕ → Option (ℕ × ℕ) → Type 0
IsPlaceOf f id None = (p k : ℕ) (i : Instr) → instr_at f.blocks p k ≡ Some i → i.id ≢ id
IsPlaceOf f id (Some at) = (i : Instr) × (instr_at f.blocks at.0 at.1 ≡ Some i) × (i.id ≡ id)

-- orders and the positions of blocks

-- the same instructions and blocks stand where they did
pub record IsSameOrder (x y : Order) : Type 0 where
  pub slots : y.slots ≡ x.slots
  pub homes : (n : ℕ) → slice_index y.block_of.items n ≡ slice_index x.block_of.items n
  pub positions : y.positions ≡ x.positions

-- an id comes into the order behind another or first, and the position of its block is noted
pub record PutsId (id position : ℕ) (after : Option ℕ) (x y : Order) : Type 0 where
  pub slots : ids y.slots ≡ put_after after id (ids x.slots)
  pub numbered : IsNumbered y.slots
  pub here : slice_index y.block_of.items id ≡ position
  pub others : (n : ℕ) → n ≢ id → slice_index y.block_of.items n ≡ slice_index x.block_of.items n
  pub positions : y.positions ≡ x.positions

-- an id goes from the order
pub record TakesId (id : ℕ) (x y : Order) : Type 0 where
  pub slots : y.slots ≡ remove x.slots (place id (ids x.slots))
  pub numbered : IsNumbered x.slots → IsNumbered y.slots
  pub homes : y.block_of ≡ x.block_of
  pub positions : y.positions ≡ x.positions

-- an order of a function, in which there is room for one more instruction at a place
pub record HasRoom (f : Function) (o : Order) (position place : ℕ) : Type 0 where
  pub order : IsOrderOf f o
  pub room : has_room_at f position ≡ true
  pub within : place ≤ length (instrs_at f.blocks position)

-- an instruction is put at a place
pub record PutsAt (old new : Function) (o : Order) (position place : ℕ) (op : OpId) (operands : List Operand) : Type 0 where
  pub func : new ≡ inserted_at old position place op operands
  pub order : IsOrderOf new o

-- the function is as before, and the order is one of it
pub record StaysOrdered (old new : Function) (o : Order) : Type 0 where
  pub func : new ≡ old
  pub order : IsOrderOf new o

-- instructions of an order stay, and those that came before others still do
pub record KeepsOrder (x y : Numbers) : Type 0 where
  pub stays : (id : ℕ) → Has x id → Has y id
  pub before : (a b : ℕ) → Has x a → Has x b → number_of x a < number_of x b → number_of y a < number_of y b
  pub not_behind : (a b : ℕ) → Has x a → Has x b → number_of x a ≤ number_of x b → number_of y a ≤ number_of y b

-- edits

-- an instruction is put into a gap; the position of its block and its id are answered
pub record PutsInto (old new : Draft) (gap : Gap) (op : OpId) (operands : List Operand) (position id : ℕ) : Type 0 where
  pub func : new.func ≡ inserted old.func gap op operands
  pub order : IsOrderOf new.func new.order
  pub position_is : position ≡ block_place gap.block old.func.blocks
  pub id_is : id ≡ old.func.next_id

-- the instruction of an id gets another opcode and other operands
pub record Replaces (old new : Draft) (id : ℕ) (op : OpId) (operands : List Operand) : Type 0 where
  pub func : new.func ≡ replaced old.func id op operands
  pub order : IsOrderOf new.func new.order

-- the instructions of some ids go, and all others keep their numbers
pub record LetsGo (old new : Function) (x y : Order) (erased : List ℕ) : Type 0 where
  pub func : new ≡ all_deleted old erased
  pub order : IsOrderOf new y
  pub numbers : (id : ℕ) → has id erased ≡ false → number_of y.slots id ≡ number_of x.slots id

-- what takes edits back

-- one edit taken back
abbrev pub undone : FormerInstr → Function → Function
undone (formers.Put position place) f = retracted_at f position place
undone (formers.Replaced position place op operands) f = replaced_at f position place op operands

-- the edits taken back, of which the last is taken back first
abbrev pub all_undone : List FormerInstr → Function → Function
all_undone [] f = f
all_undone (e ∷ es) f = undone e (all_undone es f)

-- what edits changed is logged, so that it can be taken back
pub record IsDraftLogged (old new : Draft) : Type 0 where
  pub added : List FormerInstr
  pub list : new.log.items ≡ old.log.items ++ added
  pub back : all_undone added new.func ≡ old.func
  pub order : IsOrderOf new.func new.order

-- the function is as it was before all logged edits
pub record IsUndone (old new : Draft) : Type 0 where
  pub func : new.func ≡ all_undone old.log.items old.func
  pub order : IsOrderOf new.func new.order
  pub empty : new.log.items ≡ []
