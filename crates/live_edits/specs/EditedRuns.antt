-- A run of edits as a whole, from a function whose table is computed to the edited one with its own.
use Rattle.std.specs.Prelude.{◌≡◌, ◌⊎◌, ◌<◌, ◌≤◌, ℕ, true, false, List, [], length}
use Rattle.target_base.specs.declared.types.Target.{Target}
use Rattle.slot_index.specs.Order.{ids}
use Rattle.slot_index.specs.Renewed.{low_end}
use Rattle.mir_func.specs.Value.{Function, IsFunction}
use Rattle.mir_meaning.specs.Paths.{Among, has}
use Rattle.instr_effects.specs.Numbered.{number_in, NumbersAll, KeepsNumbers}
use Rattle.live_lanes.specs.declared.row.LaneRange.{LaneRange}
use Rattle.live_edits.specs.declared.pieces.PieceSpot.{PieceSpot}
use Rattle.live_lanes.specs.declared.table.Table.{Table}
use Rattle.live_lanes.specs.Doing.{IsComputed}
use Rattle.live_lanes.specs.Entered.{rows_seen}
use Rattle.live_lanes.specs.Lasting.{AllRise}
use Rattle.live_laws.specs.Effects.Coded.{KeepsRules}
use Rattle.live_lanes.specs.Ordered.{last_id}
use Rattle.edit_laws.specs.Deferred.{all_deferred, all_gone, SpareGone, TouchesEdits}
use Rattle.edit_laws.specs.Edits.{Edit, all_edited}
use Rattle.edit_laws.specs.Further.{KeepsLast, HasFurtherLanes}
use Rattle.edit_laws.specs.Reasons.{Touched}
use Rattle.live_edits.specs.declared.cells.CellNotes.{CellNotes}
use Rattle.live_edits.specs.declared.edit_run.EditRun.{EditRun}
use Rattle.live_edits.specs.Aside.{LeavesNone, TakesRows, is_aside, put_back}
use Rattle.live_edits.specs.Drafts.{IsOrderOf, LetsGo, IsDraftLogged, all_undone}
use Rattle.live_edits.specs.Logged.{HasAllCells, all_taken_back}
use Rattle.live_edits.specs.Noted.{TellLatest, HasNotes}
use Rattle.live_edits.specs.Pieces.{nodes_of}
use Rattle.live_edits.specs.Remade.{RemakesAll}
use Rattle.live_edits.specs.Runs.{table_of, HavePlaces, Includes, TakesAside, LeavesAside, NumbersSlots, AreSuspects, HasIds, MayBeEdited}
use Rattle.live_edits.specs.Updated.{Updates}

-- no edit is under way: nothing is logged, touched, erased or taken away
pub record IsFresh (r : EditRun) : Type 0 where
  pub draft : r.draft.log.items ≡ []
  pub rows : r.rows.log.items ≡ []
  pub touched : r.touched.items ≡ []
  pub gone : r.gone.keys ≡ []
  pub aside : r.aside.items ≡ []

-- what a list of edits asks of a run
pub record MayBegin (t : Target) (r : EditRun) (es : List Edit) : Type 0 where
  pub fresh : IsFresh r
  pub edited : MayBeEdited t r.draft.func (table_of r) es

-- a run has this function and a table that is computed for it, and no edit is under way
pub record HasTable (t : Target) (f : Function) (r : EditRun) : Type 0 where
  pub func : r.draft.func ≡ f
  pub computed : IsComputed t f (table_of r)
  pub fresh : IsFresh r

-- the parts of a run

-- what they ask of it where rows may have been taken away before
pub record MayStart (t : Target) (r : EditRun) (es : List Edit) : Type 0 where
  pub draft : r.draft.log.items ≡ []
  pub rows : r.rows.log.items ≡ []
  pub touched : r.touched.items ≡ []
  pub gone : r.gone.keys ≡ []
  pub order : IsOrderOf r.draft.func r.draft.order
  pub function : IsFunction r.draft.func.blocks r.draft.func.next_id
  pub numbers : NumbersAll t r.draft.func r.lanes
  pub few : length r.rows.rows.rows.items < 4294967296
  pub places : HavePlaces t r.draft.func es
  pub spare : SpareGone [] r.draft.func es

-- what edits one after the other ask of it
pub record MayDo (t : Target) (r : EditRun) (es : List Edit) : Type 0 where
  pub order : IsOrderOf r.draft.func r.draft.order
  pub function : IsFunction r.draft.func.blocks r.draft.func.next_id
  pub tells : TellLatest t r.draft.func (number_in r.lanes) r.gone.keys r.touched.items
  pub apart : LeavesAside r.aside.items r.touched.items
  pub places : HavePlaces t r.draft.func es

-- Edits are done one after the other: the function is that after them, in which erased instructions stand; what they touch is listed.
pub record DoesEdits (t : Target) (old new : EditRun) (es : List Edit) : Type 0 where
  pub func : new.draft.func ≡ all_deferred old.draft.func es
  pub order : IsOrderOf new.draft.func new.draft.order
  pub function : IsFunction new.draft.func.blocks new.draft.func.next_id
  pub gone : (id : ℕ) → has id new.gone.keys ≡ has id (all_gone old.gone.keys es)
  pub touched : (touched : Touched) → Includes touched new.touched.items → TakesAside touched old.aside.items new.touched.items → TouchesEdits touched t old.draft.func (number_in old.lanes) es
  pub tells : SpareGone old.gone.keys old.draft.func es → TellLatest t new.draft.func (number_in new.lanes) new.gone.keys new.touched.items
  pub apart : LeavesAside new.aside.items new.touched.items
  pub lanes : new.lanes ≡ old.lanes
  pub flow : new.flow ≡ old.flow
  pub rows : new.rows ≡ old.rows
  pub aside : new.aside ≡ old.aside

-- further lanes may have numbers and rows; all else stays
pub record AddsRows (old new : EditRun) : Type 0 where
  pub draft : new.draft ≡ old.draft
  pub log : new.rows.log ≡ old.rows.log
  pub touched : new.touched ≡ old.touched
  pub gone : new.gone ≡ old.gone
  pub aside : new.aside ≡ old.aside
  pub long : length old.rows.rows.rows.items ≤ length new.rows.rows.rows.items
  pub numbers : (t : Target) (f : Function) → NumbersAll t f old.lanes → NumbersAll t f new.lanes
  pub further : length old.rows.rows.rows.items < 4294967296 → HasFurtherLanes (table_of old) (table_of new)

-- Further lanes have numbers and rows, so that all do that edits name. The function is as before, and nothing is edited yet.
pub record IsReady (t : Target) (old new : EditRun) (es : List Edit) : Type 0 where
  pub func : new.draft.func ≡ old.draft.func
  pub numbers : NumbersAll t old.draft.func new.lanes
  pub further : HasFurtherLanes (table_of old) (table_of new)
  pub named : NumbersSlots new.lanes es
  pub gone : (id : ℕ) → has id new.gone.keys ≡ false
  pub aside : new.aside ≡ old.aside

-- lanes with notes are below a number
abbrev pub AreBelow : ℕ → List CellNotes → Type 0
AreBelow n all = (c : CellNotes) → Among c all → c.lane < n

-- each of them has rows
abbrev pub HaveRows : List LaneRange → List CellNotes → Type 0
HaveRows rows all = AreBelow (length rows) all

-- the cells of touched lanes are made anew by notes, and then the pieces are brought up to date
pub record BringsUp (t : Target) (done new : EditRun) : Type 0 where
  pub all : List CellNotes
  pub notes : HasNotes t done.draft.func (number_in done.lanes) done.gone.keys done.touched.items all
  pub there : HaveRows done.rows.rows.rows.items all
  pub made : List LaneRange
  pub remade : RemakesAll done.draft.order.slots done.rows.rows.rows.items made all
  pub made_lanes : length made ≡ length done.rows.rows.rows.items
  pub suspects : List PieceSpot
  pub suspected : AllRise done.draft.order.slots made → AreSuspects done.draft.order.slots made all (nodes_of suspects)
  pub told : List ℕ
  pub telling : HasIds done.touched.items told
  pub updated : Updates told done.draft.order.slots done.flow.items made new.rows.rows.rows.items suspects
  pub lanes : length new.rows.rows.rows.items ≡ length made

-- only rows change
pub record ChangesRows (old new : EditRun) : Type 0 where
  pub draft : new.draft ≡ old.draft
  pub lanes : new.lanes ≡ old.lanes
  pub flow : new.flow ≡ old.flow
  pub touched : new.touched ≡ old.touched
  pub gone : new.gone ≡ old.gone
  pub aside : new.aside ≡ old.aside

-- slots have numbers, and then edits are done; erased instructions still stand
pub record AreDone (t : Target) (es : List Edit) (old done : EditRun) : Type 0 where
  pub ready : EditRun
  pub first : IsReady t old ready es
  pub does : DoesEdits t ready done es
  pub tells : TellLatest t done.draft.func (number_in done.lanes) done.gone.keys done.touched.items
  pub small : low_end (last_id (ids done.draft.order.slots)) done.draft.order.slots < 18446744073709551616

-- then pieces are brought up to date
pub record IsDone (t : Target) (es : List Edit) (old new : EditRun) (erased : List ℕ) : Type 0 where
  pub done : EditRun
  pub edits : AreDone t es old done
  pub brings : BringsUp t done new
  pub kept : ChangesRows done new
  pub erases : (id : ℕ) → has id erased ≡ has id done.gone.keys

-- what edits changed can be taken back
pub record IsRunLogged (t : Target) (old new : EditRun) : Type 0 where
  pub numbers : NumbersAll t old.draft.func new.lanes
  pub keeps : KeepsNumbers (number_in old.lanes) (number_in new.lanes)
  pub flow : new.flow ≡ old.flow
  pub draft : IsDraftLogged old.draft new.draft
  pub aside : new.aside ≡ old.aside
  pub long : length old.rows.rows.rows.items ≤ length new.rows.rows.rows.items
  pub seen : (l b : ℕ) → all_taken_back new.rows.log.items (rows_seen new.rows.rows.rows.items) l b ≡ rows_seen old.rows.rows.rows.items l b
  pub cells : HasAllCells new.rows.rows.rows.items new.rows.log.items
  pub few : length new.rows.rows.rows.items < 4294967296

-- erased instructions go, and no edit is under way
pub record LetsAllGo (old new : EditRun) (erased : List ℕ) : Type 0 where
  pub goes : IsOrderOf old.draft.func old.draft.order → LetsGo old.draft.func new.draft.func old.draft.order new.draft.order erased
  pub short : new.draft.func.next_id < 4294967296
  pub lanes : new.lanes ≡ old.lanes
  pub flow : new.flow ≡ old.flow
  pub rows : new.rows.rows ≡ old.rows.rows
  pub fresh : IsFresh new

-- all that is logged is taken back, and rows that were taken away are put back; no edit is under way
pub record IsRunUndone (old new : EditRun) : Type 0 where
  pub func : new.draft.func ≡ all_undone old.draft.log.items old.draft.func
  pub order : IsOrderOf new.draft.func new.draft.order
  pub small : low_end (last_id (ids new.draft.order.slots)) new.draft.order.slots < 18446744073709551616
  pub short : new.draft.func.next_id < 4294967296
  pub seen : (l b : ℕ) → rows_seen new.rows.rows.rows.items l b ≡ put_back old.aside.items (all_taken_back old.rows.log.items (rows_seen old.rows.rows.rows.items)) l b
  pub rows : length new.rows.rows.rows.items ≡ length old.rows.rows.rows.items
  pub lanes : new.lanes ≡ old.lanes
  pub flow : new.flow ≡ old.flow
  pub fresh : IsFresh new

-- From what is ready to the end: edits are done, pieces brought up to date, and then erased instructions go.
pub record IsEditedRun (t : Target) (es : List Edit) (old ready done new : EditRun) : Type 0 where
  pub first : IsReady t old ready es
  pub does : DoesEdits t ready done es
  pub small : low_end (last_id (ids done.draft.order.slots)) done.draft.order.slots < 18446744073709551616
  pub brings : BringsUp t done new
  pub erased : List ℕ
  pub erases : (id : ℕ) → has id erased ≡ has id done.gone.keys
  pub goes : LetsGo done.draft.func new.draft.func done.draft.order new.draft.order erased
  pub short : new.draft.func.next_id < 4294967296
  pub lanes : new.lanes ≡ done.lanes
  pub flow : new.flow ≡ done.flow

-- rows may have gone that edits leave nowhere
abbrev pub LeavesTaken : List Edit → ℕ → EditRun → EditRun → Type 0
LeavesTaken es v old cleared = (l : ℕ) → is_aside cleared.aside.items l ≡ true → (is_aside old.aside.items l ≡ true) ⊎ LeavesNone (table_of old) es v

-- then the function is the edited one, and the table is computed for it
abbrev pub EditedRunLaw : Type 0
EditedRunLaw =
    (t : Target) (es : List Edit) (v : ℕ) (old cleared ready done new : EditRun) → MayBeEdited t old.draft.func (table_of old) es → old.aside.items ≡ [] → TakesRows old cleared v → LeavesTaken es v old cleared
    → IsEditedRun t es cleared ready done new → (new.draft.func ≡ all_edited old.draft.func es) × IsComputed t (all_edited old.draft.func es) (table_of new)

-- A table is computed for its function still where the order of instructions has other numbers, further lanes have numbers, and rows tell
-- what they did.
pub record TellsAlike (t : Target) (f : Function) (x y : Table) : Type 0 where
  pub numbers : NumbersAll t f y.lanes
  pub keeps : KeepsNumbers (number_in x.lanes) (number_in y.lanes)
  pub flow : y.flow ≡ x.flow
  pub order : IsOrderOf f y.order
  pub small : low_end (last_id (ids y.order.slots)) y.order.slots < 18446744073709551616
  pub seen : (l b : ℕ) → rows_seen y.rows.rows.items l b ≡ rows_seen x.rows.rows.items l b
  pub few : length y.rows.rows.items < 4294967296

abbrev pub AlikeTableLaw : Type 0
AlikeTableLaw =
    (t : Target) (f : Function) (x y : Table) → IsComputed t f x → KeepsRules t f → KeepsLast t f → IsFunction f.blocks f.next_id → f.next_id < 4294967296 → length f.blocks < 4294967296
    → TellsAlike t f x y → IsComputed t f y

-- over emptied rows

-- the rows of a range may be taken away, if edits leave it nowhere
pub record ClearsRange (es : List Edit) (old cleared : EditRun) : Type 0 where
  pub range : ℕ
  pub takes : TakesRows old cleared range
  pub leaves : LeavesTaken es range old cleared

-- rows may have been taken away, and then what edits changed can be taken back
pub record IsLoggedOf (t : Target) (old new : EditRun) : Type 0 where
  pub cleared : EditRun
  pub range : ℕ
  pub takes : TakesRows old cleared range
  pub logged : IsRunLogged t cleared new

-- Rows of a range are taken away, if edits leave it nowhere, and then edits are done.
pub record IsDoneOf (t : Target) (es : List Edit) (old new : EditRun) (erased : List ℕ) : Type 0 where
  pub cleared : EditRun
  pub clears : ClearsRange es old cleared
  pub done : IsDone t es cleared new erased
