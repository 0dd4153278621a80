-- What is planned for a place, in the words of the definition: what becomes of it, as edits.
use Rattle.std.specs.Prelude.{◌≡◌, ℕ, Bool, true, false, cond, not, ◌&&◌, List, [], ◌∷◌, ◌++◌, ◌+◌, ◌||◌, map, length, Option, Some, None, option_map}
use Rattle.std.specs.List.{list_any, zip}
use Rattle.target_base.specs.declared.types.Effect.TheVariants as effects
use Rattle.target_base.specs.declared.types.OpId.{OpId}
use Rattle.target_base.specs.Numbers.{op_number}
use Rattle.meaning.specs.Live.{Among as Member}
use Rattle.mir_func.specs.declared.func.Gap.{Gap}
use Rattle.mir_func.specs.declared.func.Op.{Op}
use Rattle.mir_func.specs.declared.func.Op.TheVariants as ops
use Rattle.mir_func.specs.declared.func.RegOp.{RegOp}
use Rattle.mir_func.specs.declared.func.Operand.TheVariants as operands
use Rattle.mir_func.specs.declared.func.Instr.{Instr}
use Rattle.mir_func.specs.declared.func.Block.{Block}
use Rattle.mir_func.specs.Binding.{effect_of, registers}
use Rattle.mir_meaning.specs.Registers.{numbers}
use Rattle.mir_meaning.specs.Places.{Variable}
use Rattle.live_edits.specs.declared.edit.Edit.{Edit}
use Rattle.live_edits.specs.declared.edit.Edit.TheVariants as edits
use Rattle.spiller.specs.declared.remat.UseKey.{UseKey}
use Rattle.spiller.specs.Setting.{Spilling, is_own}
use Rattle.spiller.specs.Rematerialised.{places_of, ways_read, way_reading, copy_reading, repeated_for, is_needless}
use Rattle.spiller.specs.Spilled.{Change, is_slot, place_name, new_ids}
use Rattle.spiller.specs.Views.{Planned}

-- how the readings of a place are asked for: by its name and by the way of reading, and that of a copy by its id
abbrev pub way_key : ℕ → Variable → UseKey
way_key at x = record { at = at; indexed_class = Some (record { index = x.index; class = x.class }) }

abbrev pub copy_key : ℕ → UseKey
copy_key id = record { at = id; indexed_class = None }

-- the place is one copy or one store to a slot, which read what they move and no more
abbrev pub is_move_place : Spilling → List Instr → Bool
is_move_place s (i ∷ []) = elim (effect_of s.target i) [ None ↦ false | Some effects.Copy ↦ true | Some effects.Spill ↦ true | Some e ↦ false ]
is_move_place s is = false

-- The answers are the definition's: the id of the instruction that is repeated for a reading, and whether an instruction isn't needed any more.
pub record TellsRemat (s : Spilling) (source : UseKey → Option ℕ) (goes : ℕ → Bool) : Type 0 where
  pub ways : (b : Block) (p : List Instr) (x : Variable) → Member b s.func.blocks → Member p (places_of s.target b) → is_move_place s p ≡ false → Member x (ways_read s p) → source (way_key (place_name p) x) ≡ option_map (λ d. d.id) (repeated_for s (way_reading s p x))
  pub copies : (b : Block) (i : Instr) (d o : RegOp) → Member b s.func.blocks → Member i b.instrs → effect_of s.target i ≡ Some effects.Copy → i.operands ≡ operands.Reg d ∷ operands.Reg o ∷ [] → is_own s o ≡ true → source (copy_key i.id) ≡ option_map (λ d. d.id) (repeated_for s (copy_reading s i d o))
  pub gone : (b : Block) (i : Instr) → Member b s.func.blocks → Member i b.instrs → goes i.id ≡ is_needless s i

-- an instruction's opcode; opcode 0 for an excluded one
abbrev pub known_op : Op → OpId
known_op (ops.Known op) = op
known_op (ops.Excluded name) = op_number 0

-- new instructions are put into a gap
abbrev pub put_all : Gap → List Instr → List Edit
put_all gap xs = map (λ x. edits.Put gap (known_op x.op) x.operands) xs

-- an operand names the range
abbrev pub names_own : Spilling → Instr → Bool
names_own s i = list_any (is_own s) (registers i.operands)

-- Instructions that name the range become others in their places, one by one; where there are none, they go.
abbrev pub own_edits : Spilling → List Instr → List Instr → List Edit
own_edits s [] xs = []
own_edits s (i ∷ is) [] = edits.Erase i.id ∷ own_edits s is []
own_edits s (i ∷ is) (x ∷ xs) = cond (names_own s i) (edits.Replace i.id (known_op x.op) x.operands ∷ own_edits s is xs) (own_edits s is xs)

-- The edits that make a change of a place: what is new before it, its own instructions, what is new behind it.
abbrev pub change_edits : Spilling → Gap → Gap → List Instr → Change → List Edit
change_edits s before behind is x = put_all before x.before ++ (own_edits s is x.own ++ put_all behind x.behind)

-- an instruction names the slot
abbrev pub names_own_slot : Spilling → Instr → Bool
names_own_slot s i = list_any (is_slot s.slot) i.operands

-- a changed instruction does, where none did before
abbrev pub names_slot_anew : Spilling → List Instr → List Instr → Bool
names_slot_anew s is xs = not (list_any (names_own_slot s) is) && list_any (names_own_slot s) xs

-- a new instruction of a change does, or a changed one, where none of the place did before
abbrev pub uses_own_slot : Spilling → List Instr → Change → Bool
uses_own_slot s is x = list_any (names_own_slot s) x.before || (names_slot_anew s is x.own || list_any (names_own_slot s) x.behind)

-- a plan with what becomes of a further place
abbrev pub with_change : Spilling → Gap → Gap → List Instr → Change → Planned → Planned
with_change s before behind is x p = record {
  edits = p.edits ++ change_edits s before behind is x;
  tinies = p.tinies ++ zip (numbers p.next_range (length x.tinies)) (map (λ k. k.1) x.tinies);
  classes = p.classes ++ map (λ k. k.0) x.tinies;
  uses_slot = p.uses_slot || uses_own_slot s is x;
  next_range = p.next_range + length x.tinies;
  next_id = p.next_id + new_ids x;
}
