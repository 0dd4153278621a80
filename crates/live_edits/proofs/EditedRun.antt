-- A run of edits leads from a computed table to that of the edited function.
use Rattle.std.proofs.Common.{◌≡◌, ◌∷◌, ◌∙◌, ◌<◌, ⊎_elim, ℕ, Bool, true, false, length, List, [], Some, None, refl, sym, ap, subst}
use Rattle.target_base.specs.declared.types.Target.{Target}
use Rattle.mir_func.specs.Value.{Function, IsFunction}
use Rattle.mir_meaning.specs.Paths.{Among, here, there, Code, Step, IsMatched, Unused, Into, has, steps_of}
use Rattle.instr_effects.specs.declared.lanes.LaneTable.{LaneTable}
use Rattle.instr_effects.specs.declared.owner.Owner.TheVariants as owners
use Rattle.instr_effects.specs.Numbered.{number_in, KeepsNumbers, NumbersAll}
use Rattle.instr_effects.specs.Steps.{Numbering}
use Rattle.live_lanes.specs.declared.row.LaneRange.{LaneRange}
use Rattle.live_lanes.specs.declared.table.Table.{Table}
use Rattle.live_lanes.specs.Doing.{lane_code, IsComputed}
use Rattle.live_lanes.specs.Entered.{causes, rows_seen, IsTableOf}
use Rattle.live_lanes.specs.Laws.{AllMatched}
use Rattle.live_lanes.specs.Table.{Numbers, unseen}
use Rattle.live_lanes.proofs.Few.{few-points}
use Rattle.live_lanes.proofs.Growth.{piece-law}
use Rattle.live_lanes.proofs.Homes.{ids-below}
use Rattle.live_laws.proofs.Exact.Inside.{all}
use Rattle.edit_laws.specs.Chains.{Node}
use Rattle.edit_laws.specs.Deferred.{all_deferred, all_deleted, all_gone, nothing, standing_code, TouchesEdits}
use Rattle.edit_laws.specs.EditedTable.{HasOrder, AreRowsEdited, AreStages}
use Rattle.edit_laws.specs.Edits.{Edit, edited, all_edited}
use Rattle.edit_laws.specs.Further.{HasFurtherLanes}
use Rattle.edit_laws.specs.LetGo.{IsUnnamed, IsLaneEdited, cells_rebuilt, let_go, AreLanesEdited}
use Rattle.edit_laws.specs.Ordering.{IsOrdered}
use Rattle.edit_laws.specs.Reasons.{Touched, IsEditOf}
use Rattle.edit_laws.specs.Rebuilt.{IsRebuilt}
use Rattle.edit_laws.specs.Rechecked.{KeepCauses}
use Rattle.edit_laws.proofs.Deferred.{all-deferred-law}
use Rattle.edit_laws.proofs.EditedTable.{edited-table-law, flow-law, standing-order-law}
use Rattle.edit_laws.proofs.ErasedLast.{deferred-single, erased-last-law}
use Rattle.edit_laws.proofs.Further.{further-lanes-law}
use Rattle.edit_laws.proofs.Left.{AreLeft, none_left, one_left, one_goes}
use Rattle.edit_laws.proofs.Numbered.{numbers-edit-law}
use Rattle.edit_laws.proofs.LanesEdited.{lanes-edited-law}
use Rattle.edit_laws.proofs.Rechecked.{kept-held-law}
use Rattle.edit_laws.proofs.Standing.{is-left}
use Rattle.live_edits.specs.declared.aside.AsideRow.{AsideRow}
use Rattle.live_edits.specs.declared.cells.CellNotes.{CellNotes}
use Rattle.live_edits.specs.declared.draft.Draft.{Draft}
use Rattle.live_edits.specs.declared.edit_run.EditRun.{EditRun}
use Rattle.live_edits.specs.declared.log.LoggedRows.{LoggedRows}
use Rattle.live_edits.specs.Aside.{LeavesNone, TakesRows, is_aside}
use Rattle.live_edits.specs.Drafts.{IsOrderOf}
use Rattle.live_edits.specs.EditedRuns.{HaveRows, BringsUp, IsEditedRun, LeavesTaken, EditedRunLaw}
use Rattle.live_edits.specs.Noted.{HasNotes, touched_at}
use Rattle.live_edits.specs.Pieces.{nodes_of}
use Rattle.live_edits.specs.Remade.{AreAllNotes, RemakesAll}
use Rattle.live_edits.specs.Runs.{table_of, LeavesAside, NumbersSlots, TakesAside, AreSuspects, entry_side, exit_side, MayBeEdited}
use Rattle.live_edits.specs.Updated.{Updates, IsCarriedOver, AreUpdated}
use Rattle.live_edits.proofs.AsideTouched.{includes-with, no-note, takes-aside, told-with, touched-left, touched_with}
use Rattle.live_edits.proofs.DraftWays.{HasWays, ordered as in-order}
use Rattle.live_edits.proofs.EditedGone.{deleted-same, gone-same, is-function-still}
use Rattle.live_edits.proofs.EditedNotes.{all-notes-of, listed-by, suspects-there}
use Rattle.live_edits.proofs.EditedWays.{all-deferred-ways, all-erased-ways}
use Rattle.live_edits.proofs.Unnamed.{unnamed-law}

-- numbers of the edited function's lanes

numbers-all : (t : Target) (tab : LaneTable) (es : List Edit) (f : Function) → NumbersSlots tab es → NumbersAll t f tab → NumbersAll t (all_edited f es) tab
numbers-all t tab [] f named numbers = numbers
numbers-all t tab (e ∷ es) f named numbers = numbers-all t tab es (edited f e) (λ x m. named x (there m)) (numbers-edit-law t f e tab numbers (named e here))

-- instructions of the code in which erased ones stand are matched where those of the edited function are

nothing-matched : (id : ℕ) → IsMatched (nothing id).0
nothing-matched id = record {
  filled = λ l a e. absurd (let z : Unused ≡ Into a = e in cc);
  used = λ l a w e g h. absurd (let z : None ≡ Some w = e in cc);
  once = λ l a c w e g h. absurd (let z : None ≡ Some w = e in cc);
}

matched-before : {ss rs : List Step} → AreLeft ss rs → ((s : Step) → Among s rs → IsMatched s) → (s : Step) → Among s ss → IsMatched s
matched-before none_left h s m = elim m [ ]
matched-before (one_left a) h s here = h s here
matched-before (one_left a) h s (there m) = matched-before a (λ r k. h r (there k)) s m
matched-before (one_goes {id = id} a) h s here = nothing-matched id
matched-before (one_goes a) h s (there m) = matched-before a h s m

module _ (t : Target) (es : List Edit) (v : ℕ) (old cleared ready done new : EditRun) (may : MayBeEdited t old.draft.func (table_of old) es) (none : old.aside.items ≡ []) (takes : TakesRows old cleared v) (leaves : LeavesTaken es v old cleared) (run : IsEditedRun t es cleared ready done new) where
  abbrev f : Function
  f = old.draft.func

  abbrev aside : List AsideRow
  aside = cleared.aside.items

  abbrev num : Numbering
  num = number_in ready.lanes

  abbrev erased : List ℕ
  erased = all_gone [] es

  abbrev standing : Function
  standing = all_deferred f es

  abbrev g : Function
  g = all_edited f es

  abbrev brings : BringsUp t done new
  brings = run.brings

  abbrev lists : List CellNotes
  lists = brings.all

  abbrev touched : Touched
  touched = touched_with aside done.touched.items

  abbrev slots : Numbers
  slots = done.draft.order.slots

  abbrev made : List LaneRange
  made = brings.made

  abbrev list : List Node
  list = nodes_of brings.suspects

  -- the tables of before, with further lanes, while edits are done, and after
  abbrev x : Table
  x = record { lanes = ready.lanes; order = ready.draft.order; flow = ready.flow; rows = old.rows.rows }

  abbrev u : Table
  u = record { lanes = ready.lanes; order = done.draft.order; flow = ready.flow; rows = ready.rows.rows }

  abbrev y : Table
  y = record { lanes = ready.lanes; order = new.draft.order; flow = ready.flow; rows = new.rows.rows }

  abbrev rows : List LaneRange
  rows = old.rows.rows.rows.items

  -- those that were taken away are empty
  abbrev left : List LaneRange
  left = ready.rows.rows.rows.items

  abbrev rows' : List LaneRange
  rows' = new.rows.rows.rows.items

  func-first : ready.draft.func ≡ f
  func-first = run.first.func ∙ ap (λ (d : Draft). d.func) takes.others.draft

  numbers : NumbersAll t f ready.lanes
  numbers = subst (λ (d : Draft). NumbersAll t d.func ready.lanes) takes.others.draft run.first.numbers

  keeps : KeepsNumbers (number_in old.lanes) (number_in ready.lanes)
  keeps = subst (λ (ls : LaneTable). KeepsNumbers (number_in ls) (number_in ready.lanes)) takes.others.lanes run.first.further.numbers

  first-few : length rows < 4294967296
  first-few = (may.computed.table (all t f (table_of old) may.computed may.rules may.last)).few

  further : HasFurtherLanes (table_of old) x
  further = record {
    numbers = keeps;
    rows = λ l b. refl;
    few = first-few;
    order = run.first.further.order ∙ ap (λ (d : Draft). d.order) takes.others.draft;
    flow = run.first.further.flow ∙ takes.others.flow;
  }

  computed : IsComputed t f x
  computed = further-lanes-law t f (table_of old) x may.computed may.rules may.last numbers further

  -- the function while edits are done

  func-is : done.draft.func ≡ standing
  func-is = run.does.func ∙ ap (λ (h : Function). all_deferred h es) func-first

  gone-are : (id : ℕ) → has id done.gone.keys ≡ has id erased
  gone-are id = run.does.gone id ∙ gone-same es ready.gone.keys [] run.first.gone id

  notes : HasNotes t standing num done.gone.keys done.touched.items lists
  notes =
      subst (λ (h : Function). HasNotes t h num done.gone.keys done.touched.items lists) func-is
      (subst (λ (ls : LaneTable). HasNotes t done.draft.func (number_in ls) done.gone.keys done.touched.items lists) run.does.lanes brings.notes)

  touches : TouchesEdits touched t f num es
  touches =
      subst (λ (h : Function). TouchesEdits touched t h num es) func-first
      (run.does.touched touched (includes-with aside done.touched.items) (subst (λ (xs : List AsideRow). TakesAside touched xs done.touched.items) (sym (ap (λ u. u.items) run.first.aside)) (takes-aside aside done.touched.items)))

  standing-ways : HasWays t standing ready.flow.items
  standing-ways = all-deferred-ways touched t num ready.flow.items es f touches computed.ways

  standing-order : IsOrderOf standing done.draft.order
  standing-order = subst (λ (h : Function). IsOrderOf h done.draft.order) func-is run.does.order

  ordered : IsOrdered t standing u
  ordered = in-order t standing u standing-order standing-ways

  -- the edited function

  g-is : all_deleted standing erased ≡ g
  g-is = sym (erased-last-law f es may.spare)

  erased-are : (id : ℕ) → has id run.erased ≡ has id erased
  erased-are id = run.erases id ∙ gone-are id

  new-is : new.draft.func ≡ g
  new-is = run.goes.func ∙ (ap (λ (h : Function). all_deleted h run.erased) func-is ∙ (deleted-same standing run.erased erased (deferred-single f es may.function) erased-are ∙ g-is))

  new-ways : HasWays t g ready.flow.items
  new-ways = subst (λ (h : Function). HasWays t h ready.flow.items) g-is (all-erased-ways touched t num ready.flow.items es f touches standing-ways)

  new-order : IsOrderOf g new.draft.order
  new-order = subst (λ (h : Function). IsOrderOf h new.draft.order) new-is run.goes.order

  after : IsOrdered t g y
  after = in-order t g y new-order new-ways

  function : IsFunction g.blocks g.next_id
  function =
      subst (λ (h : Function). IsFunction h.blocks h.next_id) g-is
      (is-function-still standing erased (subst (λ (h : Function). IsFunction h.blocks h.next_id) func-is run.does.function))

  short : g.next_id < 4294967296
  short = subst (λ (h : Function). h.next_id < 4294967296) new-is run.short

  few : length g.blocks < 4294967296
  few = subst (λ n. n < 4294967296) (sym computed.ways.blocks ∙ new-ways.blocks) may.blocks

  stages : AreStages t f es x u y
  stages = record {
    ordered = ordered;
    small = run.small;
    ways = refl;
    after = after;
    same_ways = refl;
    same_numbers = λ id o. run.goes.numbers id (erased-are id ∙ o);
    function = function;
    short = short;
    few = few;
    lanes = numbers-all t ready.lanes es f run.first.named numbers;
    kept_lanes = λ o n e. e;
  }

  -- the rows

  abbrev before : Code
  before = lane_code t f num

  abbrev mid : Code
  mid = standing_code t f num es

  before-matched : AllMatched before
  before-matched = all t f x computed may.rules may.last

  tabled : IsTableOf before ready.draft.order.slots ready.flow.items rows
  tabled = computed.table before-matched

  edit : IsEditOf touched before mid
  edit = all-deferred-law touched t f num es touches

  order : HasOrder mid slots ready.flow.items
  order = standing-order-law t f num es u may.function ordered run.small

  have-rows : HaveRows left lists
  have-rows = subst (λ (r : LoggedRows). HaveRows r.rows.rows.items lists) run.does.rows brings.there

  remade : RemakesAll slots left made lists
  remade = subst (λ (r : LoggedRows). RemakesAll slots r.rows.rows.items made lists) run.does.rows brings.remade

  made-lanes : length made ≡ length left
  made-lanes = brings.made_lanes ∙ ap (λ (r : LoggedRows). length r.rows.rows.items) run.does.rows

  made-few : length made < 4294967296
  made-few = subst (λ n. n < 4294967296) (sym made-lanes) run.first.further.few

  made-rows : HaveRows made lists
  made-rows c m = subst (λ n. c.lane < n) (sym made-lanes) (have-rows c m)

  -- lanes whose rows stay: each of their cells is made anew or stays

  notes-all : AreAllNotes (touched_at done.touched.items) mid left lists
  notes-all = all-notes-of t standing num done.gone.keys done.touched.items lists notes erased gone-are left have-rows

  cells : (l : ℕ) → is_aside aside l ≡ false → (b : ℕ) → IsRebuilt before mid l b (rows_seen rows l b) (rows_seen made l b)
  cells l e b =
      remade.rebuilt touched (touched_at done.touched.items) before mid ready.draft.order.slots ready.flow.items rows tabled edit order.numbered
      notes-all l (λ c id. touched-left aside done.touched.items l c id e) (λ c. run.first.further.rows l c ∙ takes.left l c e) b

  -- the others are let go

  aside-same : done.aside ≡ cleared.aside
  aside-same = run.does.aside ∙ run.first.aside

  apart : LeavesAside aside done.touched.items
  apart = subst (λ (xs : List AsideRow). LeavesAside xs done.touched.items) (ap (λ u. u.items) aside-same) run.does.apart

  not-first : (l : ℕ) → is_aside old.aside.items l ≡ true → ⊥
  not-first l e = let z : true ≡ false = sym e ∙ ap (λ xs. is_aside xs l) none in absurd (cc)

  gone-rows : (l b : ℕ) → is_aside aside l ≡ true → rows_seen made l b ≡ unseen
  gone-rows l b e =
      remade.kept l b (λ c m own same. no-note aside done.touched.items t standing num done.gone.keys lists notes apart l e c m own)
      ∙ (run.first.further.rows l b ∙ takes.empty l b (λ h. absurd (not-first l h)) e)

  unnamed : (l : ℕ) → is_aside aside l ≡ true → IsUnnamed mid l
  unnamed l e =
      let k : (k : ℕ) × (number_in old.lanes (owners.Range v k) ≡ Some l) = ⊎_elim (λ h. absurd (not-first l h)) (λ h. h) (takes.only l e) in
      let n : LeavesNone (table_of old) es v = ⊎_elim (λ h. absurd (not-first l h)) (λ h. h) (leaves l e) in
      unnamed-law touched t f x es v k.0 l may.function numbers.table tabled touches n.brings (keeps (owners.Range v k.0) l k.1) (λ b. n.told k.0 l b k.1)

  lane-edited : (l : ℕ) → IsLaneEdited before mid l rows made (is_aside aside l)
  lane-edited l = go (is_aside aside l) refl
    where
      go : (u : Bool) → is_aside aside l ≡ u → IsLaneEdited before mid l rows made u
      go true e = let_go (record { unnamed = unnamed l e; empty = λ b. gone-rows l b e })
      go false e = cells_rebuilt (cells l e)

  updates : Updates brings.told slots ready.flow.items made rows' brings.suspects
  updates = subst (λ w. Updates brings.told slots w.items made rows' brings.suspects) run.does.flow brings.updated

  module _ (m : AllMatched (lane_code t g num)) where
    matched : (b : ℕ) (s : Step) → Among s (steps_of mid b) → IsMatched s
    matched b = matched-before ((is-left t f num es may.function may.spare).steps b) (m b)

    lanes-edited : AreLanesEdited before mid slots ready.flow.items (is_aside aside) rows made
    lanes-edited = record { last = edit.last; numbered = order.numbered; ways = flow-law touched before mid ready.flow.items edit tabled.ways; matched = matched; few = made-few; lanes = lane-edited }

    taken : IsTableOf mid slots ready.flow.items made × KeepCauses before mid (causes rows) (causes made)
    taken = lanes-edited-law before mid ready.draft.order.slots slots ready.flow.items ready.flow.items (is_aside aside) rows made tabled lanes-edited

    suspects : AreSuspects slots made lists list
    suspects = brings.suspected (piece-law mid slots ready.flow.items made taken.0)

    listed : (l b id : ℕ) → is_aside aside l ≡ false → touched l b id ≡ true → Among (entry_side slots made l b id) list × Among (exit_side slots made l b id) list
    listed l b id e h = listed-by t standing num done.gone.keys done.touched.items lists notes slots made list suspects l b id (sym (touched-left aside done.touched.items l b id e) ∙ h)

    over : IsCarriedOver touched mid slots ready.flow.items made list
    over = record {
      table = taken.0;
      outward = order.outward;
      held = kept-held-law touched before mid slots ready.flow.items (causes rows) made (computed.grown before-matched) taken.0 edit taken.1;
      there = suspects-there t standing num done.gone.keys done.touched.items lists notes slots made list suspects made-rows;
    }

    updated : AreUpdated touched mid slots ready.flow.items made rows' list
    updated = updates touched mid (told-with aside done.touched.items brings.told brings.telling) over

    rows-edited : AreRowsEdited touched before mid slots ready.flow.items rows made rows'
    rows-edited = record {
      lets_go = is_aside aside;
      lanes_edited = lane-edited;
      few = made-few;
      kept_shapes = updated.shapes_stay;
      lanes = brings.lanes;
      list = list;
      listed = listed;
      between = updated.between;
      fallen = updated.fallen;
      falls = updated.falls;
      queue = updated.queue;
      asks = updated.asks;
      risen = updated.risen;
      rises = updated.rises;
      again = updated.again;
      with_list = updated.with_list;
      with_needs = updated.with_needs;
      ended = updated.ended;
      kept = updated.kept;
    }

    done-then : IsComputed t g y
    done-then = edited-table-law touched t f es x u y made computed may.rules may.last may.function may.spare touches stages rows-edited

  -- what a table says of pieces is asked for where instructions are matched alone
  computed-then : IsComputed t g y
  computed-then = record {
    numbers = stages.lanes;
    positions = after.positions;
    homes = after.homes;
    ways = after.ways;
    layout = after.layout;
    numbered = after.numbered;
    short = ids-below g.blocks g.next_id 4294967296 function short;
    few = few-points g.blocks g.next_id function short few;
    table = λ m. (done-then m).table m;
    grown = λ m. (done-then m).grown m;
    ended = λ m. (done-then m).ended m;
  }

  y-is : y ≡ table_of new
  y-is = λ k. record { lanes = sym (run.lanes ∙ run.does.lanes) k; order = new.draft.order; flow = sym (run.flow ∙ run.does.flow) k; rows = new.rows.rows }

  computed-new : IsComputed t g (table_of new)
  computed-new = subst (IsComputed t g) y-is computed-then

pub edited-run-law : EditedRunLaw
edited-run-law t es v old cleared ready done new may none takes leaves run = (new-is t es v old cleared ready done new may none takes leaves run, computed-new t es v old cleared ready done new may none takes leaves run)
