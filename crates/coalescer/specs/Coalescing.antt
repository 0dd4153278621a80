-- What coalescing asks of a function with what is live in it, and what is made of one copy.
use Rattle.std.specs.Prelude.{◌≡◌, ◌<◌, ℕ, length, Bool, true, List, [], ◌∷◌, filter_map, find, nat_eq, Option, None, Some}
use Rattle.std.specs.List.{list_all}
use Rattle.target_base.specs.declared.types.IndexId.{IndexId}
use Rattle.target_base.specs.declared.types.Target.{Target}
use Rattle.mir_func.specs.declared.func.RegOp.{RegOp}
use Rattle.mir_func.specs.declared.func.Operand.{Operand}
use Rattle.mir_func.specs.declared.func.Instr.{Instr}
use Rattle.mir_func.specs.Value.{Function}
use Rattle.mir_func.specs.Binding.{registers}
use Rattle.live_lanes.specs.declared.live.LiveFunc.{LiveFunc}
use Rattle.live_lanes.specs.Doing.{IsComputed}
use Rattle.lowering_laws.specs.Shapes.{IsLowered}
use Rattle.live_edits.specs.declared.fold.Join.{Join}
use Rattle.live_edits.specs.Folded.{TouchesNamed, all_instrs, composed, copy_sides}
use Rattle.join_laws.specs.Joined.{Joins, Tried, fits_range, index_on}
use Rattle.join_laws.specs.Laws.{HasPlainUndefs}

-- What joins ask of a function with what is live in it: the table is computed for it; it is in the form in which ranges
-- are joined and split, without `undef` definitions and copies of `undef` sources; and no instruction names a range in
-- `undef` uses alone.
pub record MayCoalesce (t : Target) (x : LiveFunc) : Type 0 where
  pub target : x.target ≡ t
  pub computed : IsComputed t x.func x.table
  pub lowered : IsLowered t x.func
  pub plain : HasPlainUndefs t x.func
  pub named : (v : ℕ) → TouchesNamed x.func v
  pub blocks : length x.func.blocks < 4294967296

-- the first instruction of an id
abbrev pub instr_of : Function → ℕ → Option Instr
instr_of f id = find (λ i. nat_eq i.id id) (all_instrs f)

-- the sides of a copy, if there is one
abbrev pub sides_in : Target → Option Instr → Option (RegOp × RegOp)
sides_in t None = None
sides_in t (Some i) = copy_sides t i

-- the indexes with which these operands name range b fit range a, within the lanes of index x
abbrev pub fits_operands : Target → Function → ℕ → IndexId → ℕ → List Operand → Bool
fits_operands t f a x b os = list_all (λ y. fits_range t f a (composed t x y)) (filter_map (index_on b) (registers os))

-- those of an instruction, if there is one
abbrev pub fits_instr : Target → Function → ℕ → IndexId → ℕ → Option Instr → Bool
fits_instr t f a x b None = true
fits_instr t f a x b (Some i) = fits_operands t f a x b i.operands

-- the join of the copy of an id, where it may be joined and no value is lost by that
abbrev pub IsJoinOf : Target → Function → ℕ → Option Join → Type 0
IsJoinOf t f id None = (j : Join) → Joins t f id j → ⊥
IsJoinOf t f id (Some j) = Joins t f id j

abbrev pub joins_of : Option Join → List Join
joins_of None = []
joins_of (Some j) = j ∷ []

-- the copy of an id was tried, and all that joins ask still holds
pub record IsTried (t : Target) (id : ℕ) (old new : LiveFunc) (made : Option Join) : Type 0 where
  pub kept : MayCoalesce t new
  pub tried : Tried t (id ∷ []) old.func (joins_of made) new.func
