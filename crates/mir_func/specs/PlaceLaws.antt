-- What edits at places are beside those by id and by gap; that they can be taken back; and which deletions may come later.
use Rattle.std.specs.Prelude.{◌≡◌, ◌≢◌, ℕ, true, List, Some, length, ◌≤◌, map}
use Rattle.target_base.specs.declared.types.OpId.{OpId}
use Rattle.mir_func.specs.declared.func.Gap.{Gap}
use Rattle.mir_func.specs.declared.func.Instr.{Instr}
use Rattle.mir_func.specs.declared.func.Op.{Op}
use Rattle.mir_func.specs.declared.func.Operand.{Operand}
use Rattle.mir_func.specs.Value.{Function, IsFunction}
use Rattle.mir_func.specs.Edits.{made, block_place, gap_place, inserted, cut, deleted, changed_in}
use Rattle.mir_func.specs.At.{instrs_at, instr_at, has_room_at, inserted_at, removed_at, retracted_at, with_operation, replaced_at}

-- to put an instruction at the place of a gap is to put it into the gap
abbrev pub PutLaw : Type 0
PutLaw = (f : Function) (gap : Gap) (position place : ℕ) (op : OpId) (operands : List Operand)
    → position ≡ block_place gap.block f.blocks → place ≡ gap_place gap.before (instrs_at f.blocks position) → has_room_at f position ≡ true
    → inserted_at f position place op operands ≡ inserted f gap op operands

-- the new instruction stands at that place
abbrev pub StandsLaw : Type 0
StandsLaw = (f : Function) (position place : ℕ) (op : OpId) (operands : List Operand)
    → has_room_at f position ≡ true → place ≤ length (instrs_at f.blocks position)
    → instr_at (inserted_at f position place op operands).blocks position place ≡ Some (made f.next_id op operands)

-- the gap before an instruction is at its place
abbrev pub GapLaw : Type 0
GapLaw = (f : Function) (position place : ℕ) (i : Instr) → IsFunction f.blocks f.next_id
    → instr_at f.blocks position place ≡ Some i → gap_place (Some i.id) (instrs_at f.blocks position) ≡ place

-- to take out the instruction at a place is to delete that of its id
abbrev pub RemovedLaw : Type 0
RemovedLaw = (f : Function) (position place : ℕ) (i : Instr) → IsFunction f.blocks f.next_id
    → instr_at f.blocks position place ≡ Some i → removed_at f position place ≡ deleted f i.id

-- to replace what the instruction at a place does is to replace what that of its id does
abbrev pub ReplacedLaw : Type 0
ReplacedLaw = (f : Function) (position place : ℕ) (i : Instr) (op : Op) (operands : List Operand) → IsFunction f.blocks f.next_id
    → instr_at f.blocks position place ≡ Some i
    → replaced_at f position place op operands ≡ record f { blocks = map (changed_in i.id (with_operation op operands)) f.blocks }

-- what was put last is taken back
abbrev pub RetractedLaw : Type 0
RetractedLaw = (f : Function) (position place : ℕ) (op : OpId) (operands : List Operand)
    → has_room_at f position ≡ true → place ≤ length (instrs_at f.blocks position)
    → retracted_at (inserted_at f position place op operands) position place ≡ f

-- what was replaced is given back
abbrev pub RestoredLaw : Type 0
RestoredLaw = (f : Function) (position place : ℕ) (i : Instr) (op : Op) (operands : List Operand)
    → instr_at f.blocks position place ≡ Some i
    → replaced_at (replaced_at f position place op operands) position place i.op i.operands ≡ f

-- a deletion may come after another
abbrev pub DeletedTwiceLaw : Type 0
DeletedTwiceLaw = (f : Function) (id other : ℕ) → deleted (deleted f other) id ≡ deleted (deleted f id) other

-- it may come after another instruction is changed
abbrev pub DeletedChangedLaw : Type 0
DeletedChangedLaw = (f : Function) (id other : ℕ) (op : Op) (operands : List Operand) → id ≢ other
    → deleted (record f { blocks = map (changed_in other (with_operation op operands)) f.blocks }) id
    ≡ record f { blocks = map (changed_in other (with_operation op operands)) (map (cut id) f.blocks) }

-- it may come after an instruction is put into a gap that isn't before that which is deleted
abbrev pub DeletedPutLaw : Type 0
DeletedPutLaw = (f : Function) (id : ℕ) (gap : Gap) (op : OpId) (operands : List Operand) → id ≢ f.next_id → Some id ≢ gap.before
    → deleted (inserted f gap op operands) id ≡ inserted (deleted f id) gap op operands
