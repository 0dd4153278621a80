-- The tinies of a place as its records keep them.
use Rattle.std.specs.Prelude.{◌≡◌, ℕ, cond, ◌+◌, List, [], ◌∷◌, map, Option, Some, None, option_and_then, option_map, slice_get}
use Rattle.std.specs.List.{list_any}
use Rattle.target_base.specs.declared.types.Role.{Role}
use Rattle.mir_func.specs.declared.func.Gap.{Gap}
use Rattle.mir_func.specs.declared.func.Loc.TheVariants.{Virtual}
use Rattle.mir_func.specs.declared.func.RegOp.{RegOp}
use Rattle.mir_func.specs.declared.func.Operand.{Operand}
use Rattle.mir_func.specs.declared.func.Operand.TheVariants as operands
use Rattle.mir_func.specs.declared.func.Instr.{Instr}
use Rattle.mir_func.specs.declared.func.Block.{Block}
use Rattle.mir_func.specs.Value.{Function}
use Rattle.mir_func.specs.Binding.{Bound, operand_class, tied_number}
use Rattle.mir_meaning.specs.Places.{Variable}
use Rattle.live_lanes.specs.Touching.{FindsInstrs}
use Rattle.live_edits.specs.declared.edit.Edit.{Edit}
use Rattle.live_edits.specs.declared.edit.Edit.TheVariants as edits
use Rattle.spiller.specs.declared.plan.SpillView.{SpillView}
use Rattle.spiller.specs.declared.remat.UseKey.{UseKey}
use Rattle.spiller.specs.declared.roles.IndexedClass.{IndexedClass}
use Rattle.spiller.specs.declared.seats.ReadTiny.{ReadTiny}
use Rattle.spiller.specs.declared.seats.DefinedTiny.{DefinedTiny}
use Rattle.spiller.specs.Setting.{Spilling, is_own, own_lanes, in_own_slot, plain_use, store}
use Rattle.spiller.specs.Spilled.{OwnDefinition, as_tiny, numbered_operands}
use Rattle.spiller.specs.Views.{IsThere, gap_behind, tiny_by_number, tiny_of_way, ways_of}
use Rattle.spiller.specs.Planned.{known_op, names_own, way_key}

-- a way of reading with its tiny
abbrev pub read_tiny : ℕ × Variable → ReadTiny
read_tiny p = record { indexed_class = record { index = p.1.index; class = p.1.class }; range = p.0 }

-- the definition of the range by an instruction that an operand of that number is
abbrev pub defined_as : Instr → ℕ → IndexedClass → OwnDefinition
defined_as i n x = record { by = i; number = n; index = x.index; class = x.class }

-- a definition with its tiny
abbrev pub defined_tiny : ℕ × OwnDefinition → DefinedTiny
defined_tiny p = record { by = p.1.by.id; number = p.1.number; indexed_class = record { index = p.1.index; class = p.1.class }; range = p.0 }

-- the answer for a way of reading at the place of that name is the id of the instruction that is repeated for it, which is one of the function's
abbrev pub IsGiven : Function → (UseKey → Option ℕ) → ℕ → (Variable → Option Instr) → Variable → Type 0
IsGiven f answer at sources x = (answer (way_key at x) ≡ option_map (λ d. d.id) (sources x)) × ((d : Instr) → sources x ≡ Some d → IsThere f d)

-- the tiny of a use, among these
abbrev pub tiny_of_use : Spilling → List ReadTiny → List DefinedTiny → ℕ → Option Role → RegOp → Option ℕ
tiny_of_use s reads definitions by r o = elim (option_and_then tied_number r) [
  | None ↦ cond o.undef None (tiny_of_way s.range (record { index = o.index; class = operand_class s.target s.func r o }) (ways_of s.range reads))
  | Some n ↦ tiny_by_number definitions by n
]

-- the tiny of an operand of that number of an instruction, by its id
abbrev pub tiny_of_operand : Spilling → List ReadTiny → List DefinedTiny → ℕ → ℕ → Option Role → RegOp → Option ℕ
tiny_of_operand s reads definitions by n r o = cond o.def (tiny_by_number definitions by n) (tiny_of_use s reads definitions by r o)

-- an operand of the range with its tiny in place of it
abbrev pub placed : Spilling → List ReadTiny → List DefinedTiny → ℕ → ℕ → Option Role → RegOp → RegOp
placed s reads definitions by n r o = elim (tiny_of_operand s reads definitions by n r o) [ None ↦ o | Some c ↦ as_tiny o c ]

-- an operand with its tiny in place of the range
abbrev pub placed_operand : Spilling → List ReadTiny → List DefinedTiny → ℕ → ℕ × Bound → Operand
placed_operand s reads definitions by (n, (r, operands.Reg o)) = operands.Reg (cond (is_own s o) (placed s reads definitions by n r o) o)
placed_operand s reads definitions by (n, (r, o)) = o

-- tinies take the place of the range in an instruction that names it
abbrev pub placed_edits : Spilling → List ReadTiny → List DefinedTiny → Instr → List Edit
placed_edits s reads definitions i = cond (names_own s i) (edits.Replace i.id (known_op i.op) (map (placed_operand s reads definitions i.id) (numbered_operands s.target i)) ∷ []) []

-- the store of a definition, where a lane of it is live behind its instruction
abbrev pub stored_tiny : Spilling → DefinedTiny → List Instr
stored_tiny s x = cond (list_any (s.facts.live_behind x.by) (own_lanes s x.indexed_class.index)) (store s.target x.indexed_class.class (plain_use (Virtual x.range) None) (in_own_slot s x.indexed_class.index) ∷ []) []

-- the gap is the one behind the instruction of that id
pub record IsBehind (view : SpillView) (id : ℕ) (gap : Gap) : Type 0 where
  pub position : ℕ
  pub place : ℕ
  pub block : Block
  pub instr : Instr
  pub finds : FindsInstrs view.live.now.table view.live.now.func.blocks
  pub is_block : slice_get view.live.now.func.blocks position ≡ Some block
  pub is_instr : slice_get block.instrs place ≡ Some instr
  pub named : instr.id ≡ id
  pub is_gap : gap ≡ gap_behind block (slice_get block.instrs (place + 1))
