-- A list of edits as it is done.
use Rattle.std.specs.Prelude.{◌≡◌, ◌⊎◌, ◌<◌, ℕ, true, false, List, [], ◌∷◌, Option, Some, None, map, flat_map, length}
use Rattle.target_base.specs.declared.types.Target.{Target}
use Rattle.mir_func.specs.Value.{Function, IsFunction}
use Rattle.mir_func.specs.At.{instr_at}
use Rattle.mir_func.specs.Binding.{slot_at}
use Rattle.mir_func.specs.declared.func.Instr.{Instr}
use Rattle.mir_meaning.specs.Paths.{Among, has}
use Rattle.instr_effects.specs.declared.lane_acts.LaneAct.{LaneAct}
use Rattle.instr_effects.specs.declared.lanes.LaneTable.{LaneTable}
use Rattle.instr_effects.specs.Numbered.{number_in, IsTable, HasSlot, KeepsNumbers}
use Rattle.instr_effects.specs.Steps.{Numbering}
use Rattle.live_lanes.specs.declared.row.LaneRange.{LaneRange}
use Rattle.live_lanes.specs.Table.{Numbers, entry_rank, exit_rank}
use Rattle.live_lanes.specs.Entered.{cells_of}
use Rattle.live_lanes.specs.Growth.{piece_in_rows}
use Rattle.live_edits.specs.declared.edit.Edit.TheVariants as code_edits
use Rattle.live_edits.specs.declared.edit.Edit.{Edit as CodeEdit}
use Rattle.live_lanes.specs.declared.table.Table.{Table}
use Rattle.live_lanes.specs.Doing.{IsComputed}
use Rattle.live_laws.specs.Effects.Coded.{KeepsRules}
use Rattle.edit_laws.specs.Chains.{Node}
use Rattle.edit_laws.specs.Codes.{step_in}
use Rattle.edit_laws.specs.Deferred.{deferred, gone_after, Spares, SpareGone, TouchesEdit}
use Rattle.edit_laws.specs.Edits.{Edit, Put, Replace, Erase, KeepsWays}
use Rattle.edit_laws.specs.Further.{KeepsLast}
use Rattle.edit_laws.specs.Numbered.{NumbersEdit}
use Rattle.edit_laws.specs.Reasons.{Touched}
use Rattle.live_edits.specs.declared.aside.AsideRow.{AsideRow}
use Rattle.live_edits.specs.declared.cells.CellNotes.{CellNotes}
use Rattle.live_edits.specs.declared.cells.Note.{Note}
use Rattle.live_edits.specs.declared.edit_run.EditRun.{EditRun}
use Rattle.live_edits.specs.declared.notes.TouchedInstr.{TouchedInstr}
use Rattle.live_edits.specs.Aside.{is_aside}
use Rattle.live_edits.specs.Drafts.{IsOrderOf, HasGap}
use Rattle.live_edits.specs.Noted.{touched_lanes, TellLatest}
use Rattle.live_edits.specs.NotedTable.{AreActs}
use Rattle.live_edits.specs.Pieces.{IsThere}

-- an edit as a value
abbrev pub edit_of : CodeEdit → Edit
edit_of (code_edits.Put gap op operands) = Put gap op operands
edit_of (code_edits.Replace id op operands) = Replace id op operands
edit_of (code_edits.Erase id) = Erase id

abbrev pub edits_of : List CodeEdit → List Edit
edits_of es = map edit_of es

-- the table of a run as it stands
abbrev pub table_of : EditRun → Table
table_of r = record { lanes = r.lanes; order = r.draft.order; flow = r.flow; rows = r.rows.rows }

-- what the edit puts has a gap in a block of the function
abbrev pub HasPlace : Function → Edit → Type 0
HasPlace f (Put gap op os) = HasGap f gap
HasPlace f (Replace id op os) = Unit {0}
HasPlace f (Erase id) = Unit {0}

-- each edit of the list has its place in the function as it stands then, and leaves phis and the ways between blocks
abbrev pub HavePlaces : Target → Function → List Edit → Type 0
HavePlaces t f [] = Unit {0}
HavePlaces t f (e ∷ es) = HasPlace f e × KeepsWays t f e × HavePlaces t (deferred f e) es

-- the test tells all lanes of touched instructions
abbrev pub Includes : Touched → List TouchedInstr → Type 0
Includes touched xs = (x : TouchedInstr) → Among x xs → (l : ℕ) → Among l (touched_lanes x) → touched l x.block x.id ≡ true

-- at these instructions the test tells all lanes whose rows were taken away
abbrev pub TakesAside : Touched → List AsideRow → List TouchedInstr → Type 0
TakesAside touched aside xs = (x : TouchedInstr) → Among x xs → (l : ℕ) → is_aside aside l ≡ true → touched l x.block x.id ≡ true

-- none of these lanes is listed as touched
abbrev pub LeavesAside : List AsideRow → List TouchedInstr → Type 0
LeavesAside aside xs = (x : TouchedInstr) → Among x xs → (a : LaneAct) → Among a x.acts.items → is_aside aside a.lane ≡ false

-- an edit leaves all instructions that are erased
abbrev pub AllSpared : List ℕ → Function → Edit → Type 0
AllSpared gone f e = (id : ℕ) → has id gone ≡ true → Spares f e id

-- One edit is done: the function is that after it, in which erased instructions stand. What it touches is listed, with what is done there
-- then, but for lanes whose rows were taken away.
pub record DoesEdit (t : Target) (old new : EditRun) (e : Edit) : Type 0 where
  pub func : new.draft.func ≡ deferred old.draft.func e
  pub order : IsOrderOf new.draft.func new.draft.order
  pub function : IsFunction new.draft.func.blocks new.draft.func.next_id
  pub gone : (id : ℕ) → has id new.gone.keys ≡ has id (gone_after old.gone.keys e)
  pub touched : (touched : Touched) → Includes touched new.touched.items → TakesAside touched old.aside.items new.touched.items → TouchesEdit touched t old.draft.func (number_in old.lanes) e
  pub kept : (x : TouchedInstr) → Among x old.touched.items → Among x new.touched.items
  pub tells : AllSpared old.gone.keys old.draft.func e → LeavesAside old.aside.items old.touched.items → TellLatest t old.draft.func (number_in old.lanes) old.gone.keys old.touched.items → TellLatest t new.draft.func (number_in new.lanes) new.gone.keys new.touched.items
  pub apart : LeavesAside old.aside.items old.touched.items → LeavesAside new.aside.items new.touched.items
  pub lanes : new.lanes ≡ old.lanes
  pub flow : new.flow ≡ old.flow
  pub rows : new.rows ≡ old.rows
  pub aside : new.aside ≡ old.aside

-- what a list of edits asks of the function and of its table
pub record MayBeEdited (t : Target) (f : Function) (x : Table) (es : List Edit) : Type 0 where
  pub computed : IsComputed t f x
  pub rules : KeepsRules t f
  pub last : KeepsLast t f
  pub function : IsFunction f.blocks f.next_id
  pub blocks : length f.blocks < 4294967296
  pub places : HavePlaces t f es
  pub spare : SpareGone [] f es

-- the parts of one edit

-- the acts tell what the instruction at a place does
abbrev pub AreActsAt : Target → Function → Numbering → ℕ → ℕ → List LaneAct → Type 0
AreActsAt t f num position place acts = (i : Instr) → instr_at f.blocks position place ≡ Some i → AreActs (step_in t f num i) acts

-- the same of the instruction of an id
abbrev pub AreActsOf : Target → Function → Numbering → ℕ → List LaneAct → Type 0
AreActsOf t f num id acts = (position place : ℕ) (i : Instr) → instr_at f.blocks position place ≡ Some i → i.id ≡ id → AreActs (step_in t f num i) acts

-- the numbers of lanes, the ways between blocks and the pieces stay
pub record KeepsTables (old new : EditRun) : Type 0 where
  pub lanes : new.lanes ≡ old.lanes
  pub flow : new.flow ≡ old.flow
  pub rows : new.rows ≡ old.rows
  pub aside : new.aside ≡ old.aside

-- slots

-- further slots have numbers; all that had some keep theirs
pub record AddsSlots (old new : LaneTable) : Type 0 where
  pub table : IsTable old → IsTable new
  pub reserved : new.reserved ≡ old.reserved
  pub ranges : new.ranges ≡ old.ranges
  pub slots : (s : ℕ) → HasSlot old s → HasSlot new s
  pub numbers : KeepsNumbers (number_in old) (number_in new)

-- the slot that an edit's operands name
abbrev pub named_slot : CodeEdit → Option ℕ
named_slot (code_edits.Put gap op operands) = slot_at operands 1
named_slot (code_edits.Replace id op operands) = slot_at operands 1
named_slot (code_edits.Erase id) = None

-- the slots that edits name have numbers
abbrev pub NumbersSlots : LaneTable → List Edit → Type 0
NumbersSlots tab es = (e : Edit) → Among e es → NumbersEdit tab e

-- the cells of lanes stay, as far as the code sees
abbrev pub KeepsCells : List LaneRange → List LaneRange → Type 0
KeepsCells old new = (l : ℕ) → cells_of new l ≡ cells_of old l

-- all but the numbers of lanes and the rows stays
pub record KeepsDraft (old new : EditRun) : Type 0 where
  pub draft : new.draft ≡ old.draft
  pub flow : new.flow ≡ old.flow
  pub log : new.rows.log ≡ old.rows.log
  pub touched : new.touched ≡ old.touched
  pub gone : new.gone ≡ old.gone
  pub aside : new.aside ≡ old.aside

-- the pieces beside touched instructions

-- the pieces of a lane in a block in which the entry and the exit of the instruction of an id lie
abbrev pub entry_side : Numbers → List LaneRange → ℕ → ℕ → ℕ → Node
entry_side slots rows l b id = (l, b, piece_in_rows slots rows l b (entry_rank slots id))

abbrev pub exit_side : Numbers → List LaneRange → ℕ → ℕ → ℕ → Node
exit_side slots rows l b id = (l, b, piece_in_rows slots rows l b (exit_rank slots id))

-- those of the instructions of a cell's notes, and of all notes
abbrev pub both_sides : Numbers → List LaneRange → ℕ → ℕ → Note → List Node
both_sides slots rows l b n = entry_side slots rows l b n.id ∷ exit_side slots rows l b n.id ∷ []

abbrev pub cell_sides : Numbers → List LaneRange → CellNotes → List Node
cell_sides slots rows c = flat_map (both_sides slots rows c.lane c.block) c.notes.items

abbrev pub all_sides : Numbers → List LaneRange → List CellNotes → List Node
all_sides slots rows all = flat_map (cell_sides slots rows) all

-- exactly these are listed
pub record AreSuspects (slots : Numbers) (rows : List LaneRange) (all : List CellNotes) (list : List Node) : Type 0 where
  pub entry : (c : CellNotes) → Among c all → (n : Note) → Among n c.notes.items → Among (entry_side slots rows c.lane c.block n.id) list
  pub exit : (c : CellNotes) → Among c all → (n : Note) → Among n c.notes.items → Among (exit_side slots rows c.lane c.block n.id) list
  pub each : (m : Node) → Among m list → (c : CellNotes) × Among c all × ((n : Note) × Among n c.notes.items × ((m ≡ entry_side slots rows c.lane c.block n.id) ⊎ (m ≡ exit_side slots rows c.lane c.block n.id)))
  pub there : (m : Node) → Among m list → m.0 < length rows → IsThere rows m

-- the ids of touched instructions are among these
abbrev pub HasIds : List TouchedInstr → List ℕ → Type 0
HasIds xs ids = (x : TouchedInstr) → Among x xs → has x.id ids ≡ true
