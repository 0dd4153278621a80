-- What steps of the order of instructions ask and give.
use Rattle.std.specs.Prelude.{◌≡◌, ◌≢◌, ℕ, IfSome}
use Rattle.std.specs.List.{remove}
use Rattle.target_base.specs.declared.types.Target.{Target}
use Rattle.slot_index.specs.Order.{Has, ids, number_of, place}
use Rattle.mir_func.specs.declared.func.Gap.{Gap}
use Rattle.mir_func.specs.Value.{Function, IsFunction}
use Rattle.mir_func.specs.Edits.{HasBlock}
use Rattle.live_lanes.specs.declared.table.Table.{Table}
use Rattle.live_lanes.specs.Table.{Numbers}
use Rattle.live_lanes.specs.Ordered.{last_id}
use Rattle.edit_laws.specs.Ordering.{IsOrdered, ids_before_gap}

-- the next id isn't in the order, and the instruction that stands before the gap is, if there is one
pub record IsOpen (f : Function) (gap : Gap) (x : Table) : Type 0 where
  pub absent : Has x.order.slots f.next_id → ⊥
  pub before : IfSome (last_id (ids_before_gap f gap)) (Has x.order.slots)

-- so an instruction can be put into any gap of a block
abbrev pub OpenLaw : Type 0
OpenLaw = (t : Target) (f : Function) (gap : Gap) (x : Table) → IsFunction f.blocks f.next_id → HasBlock f gap.block → IsOrdered t f x → IsOpen f gap x

-- the order without an id: all others keep their numbers
pub record IsRemoved (id : ℕ) (old new : Numbers) : Type 0 where
  pub order : ids new ≡ remove (ids old) (place id (ids old))
  pub numbers : (x : ℕ) → x ≢ id → number_of new x ≡ number_of old x

abbrev pub RemovedLaw : Type 0
RemovedLaw = (slots : Numbers) (id : ℕ) → IsRemoved id slots (remove slots (place id (ids slots)))
