-- What the code looks at while it plans a spill, and the plan, as the definition's words name them.
use Rattle.std.specs.Prelude.{◌≡◌, ℕ, Bool, false, ◌&&◌, length, List, [], Option, Some, None, slice_get, slice_index, nat_eq, option_map, find, map}
use Rattle.target_base.specs.declared.types.ClassId.{ClassId}
use Rattle.mir_func.specs.Value.{Function}
use Rattle.mir_func.specs.Binding.{same_index, operand_class}
use Rattle.mir_func.specs.declared.func.RegOp.{RegOp}
use Rattle.target_base.specs.declared.types.Role.{Role}
use Rattle.spiller.specs.declared.seats.DefinedTiny.{DefinedTiny}
use Rattle.mir_func.specs.declared.func.Gap.{Gap}
use Rattle.mir_func.specs.declared.func.Instr.{Instr}
use Rattle.mir_func.specs.declared.func.Block.{Block}
use Rattle.instr_effects.specs.declared.owner.Owner.TheVariants as owners
use Rattle.instr_effects.specs.Numbered.{number_in}
use Rattle.live_lanes.specs.Looks.{exit_at}
use Rattle.mir_meaning.specs.Places.{Variable, Using, variable, same_class, same_use}
use Rattle.live_edits.specs.declared.edit.Edit.{Edit}
use Rattle.spiller.specs.declared.plan.SpillView.{SpillView}
use Rattle.spiller.specs.declared.plan.Plan.{Plan}
use Rattle.spiller.specs.declared.roles.IndexedClass.{IndexedClass}
use Rattle.spiller.specs.declared.seats.ReadTiny.{ReadTiny}
use Rattle.spiller.specs.declared.remat.RematConstraint.{RematConstraint}
use Rattle.spiller.specs.declared.remat.RematConstraint.TheVariants as constraints
use Rattle.spiller.specs.Reaching.{Facts}
use Rattle.spiller.specs.Setting.{Spilling}
use Rattle.spiller.specs.Rematerialised.{Wish, Never, Within, Holding}

-- the range that is spilled, with this slot and under these facts
abbrev pub spilling_of : SpillView → ℕ → Facts → Spilling
spilling_of view slot facts = record { target = view.target.now; func = view.live.now.func; range = view.v; slot = slot; facts = facts }

-- how an operand with its role names the range
abbrev pub named_by : SpillView → Option Role → RegOp → IndexedClass
named_by view r o = record { index = o.index; class = operand_class view.target.now view.live.now.func r o }

-- a use that names the range so
abbrev pub way_of : ℕ → IndexedClass → Variable
way_of v x = variable Using v x.index x.class

-- the index and the operand class are the same
abbrev pub same_way : IndexedClass → IndexedClass → Bool
same_way a b = same_index a.index b.index && same_class a.class b.class

-- ways of reading, each with its tiny
abbrev pub ways_of : ℕ → List ReadTiny → List (ℕ × Variable)
ways_of v xs = map (λ x. (x.range, way_of v x.indexed_class)) xs

-- the tiny of the definition of that number by an instruction, by its id
abbrev pub tiny_by_number : List DefinedTiny → ℕ → ℕ → Option ℕ
tiny_by_number xs by n = option_map (λ x. x.range) (find (λ x. nat_eq x.by by && nat_eq x.number n) xs)

-- the tiny of a way of reading
abbrev pub tiny_of_way : ℕ → IndexedClass → List (ℕ × Variable) → Option ℕ
tiny_of_way v x ways = option_map (λ p. p.0) (find (λ p. same_use (way_of v x) p.1) ways)

-- the number of the block of an instruction, by its id
abbrev pub block_number : SpillView → ℕ → ℕ
block_number view id = elim (slice_get view.live.now.func.blocks (slice_index view.live.now.table.order.block_of.items id)) [ None ↦ 0 | Some b ↦ b.number ]

-- the gap right before an instruction
abbrev pub gap_before : SpillView → ℕ → Gap
gap_before view id = record { block = block_number view id; before = Some id }

-- the gap in front of an instruction of the block, or at its end
abbrev pub gap_behind : Block → Option Instr → Gap
gap_behind b next = record { block = b.number; before = option_map (λ i. i.id) next }

-- the instruction stands in the function
abbrev pub IsThere : Function → Instr → Type 0
IsThere f d = (p j : ℕ) × (b : Block) × (slice_get f.blocks p ≡ Some b) × (slice_get b.instrs j ≡ Some d)

-- The range that is spilled, as the table tells which of its lanes are live. Which definitions reach readings is of no matter
-- here.
abbrev pub own_setting : SpillView → Spilling
own_setting view = spilling_of view view.slot (record { live_behind = λ id k. exit_at view.live.now.table (number_in view.live.now.table.lanes (owners.Range view.v k)) id; reaches = λ d k i. false })

-- what a reading asks
abbrev pub wish_of : RematConstraint → Wish
wish_of constraints.Never = Never
wish_of (constraints.Class k) = Within k
wish_of (constraints.Fixed r) = Holding r

-- A plan: the edits in order; the tinies, each with its range number and with the instruction that names its place,
-- and their classes; whether a store or a reload names the slot; and the numbers that are given next.
pub record Planned : Type 0 where
  pub edits : List Edit
  pub tinies : List (ℕ × ℕ)
  pub classes : List (Option ClassId)
  pub uses_slot : Bool
  pub next_range : ℕ
  pub next_id : ℕ

abbrev pub planned : Plan → Planned
planned p = record {
  edits = p.edits.items;
  tinies = map (λ x. (x.range, x.at)) p.tinies;
  classes = p.classes.items;
  uses_slot = p.uses_slot;
  next_range = p.next_range;
  next_id = p.next_id;
}

-- nothing is planned for the function
abbrev pub no_plan : Function → Planned
no_plan f = record { edits = []; tinies = []; classes = []; uses_slot = false; next_range = length f.classes; next_id = f.next_id }
