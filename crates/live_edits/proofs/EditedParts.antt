-- From part to part of a run of edits.
use Rattle.std.proofs.Common.{arith, ◌≡◌, ◌⊎◌, inl, inr, ◌∷◌, ◌++◌, ◌∙◌, ◌<◌, ◌≤◌, ◌+◌, ℕ, true, length, drop, get_or, List, [], refl, sym, ap, subst}
use Rattle.target_base.specs.declared.types.Target.{Target}
use Rattle.mir_func.specs.Value.{Function, IsFunction}
use Rattle.mir_meaning.specs.Paths.{Among, has}
use Rattle.instr_effects.specs.declared.lanes.LaneTable.{LaneTable}
use Rattle.instr_effects.specs.Numbered.{number_in, counts, NumbersAll, KeepsNumbers}
use Rattle.live_lanes.specs.declared.row.LaneRange.{LaneRange}
use Rattle.live_lanes.specs.declared.table.LaneRanges.{LaneRanges}
use Rattle.live_lanes.specs.Entered.{rows_seen}
use Rattle.live_lanes.proofs.Basics.{none-among}
use Rattle.live_lanes.proofs.Numbered.{among-cases, among-split}
use Rattle.live_laws.proofs.Exact.Inside.{all}
use Rattle.edit_laws.specs.Deferred.{SpareGone}
use Rattle.edit_laws.specs.Edits.{Edit, all_edited}
use Rattle.edit_laws.specs.Further.{HasFurtherLanes}
use Rattle.live_edits.specs.declared.cells.CellNotes.{CellNotes}
use Rattle.live_edits.specs.declared.draft.Draft.{Draft}
use Rattle.live_edits.specs.declared.edit_run.EditRun.{EditRun}
use Rattle.live_edits.specs.declared.log.LoggedRows.{LoggedRows}
use Rattle.live_edits.specs.Aside.{AreThere, TakesRows, TakesSome, put_back}
use Rattle.live_edits.specs.declared.notes.TouchedInstr.{TouchedInstr}
use Rattle.live_edits.specs.Drafts.{IsOrderOf, LetsGo, IsDraftLogged, all_undone}
use Rattle.live_edits.specs.EditedRuns.{MayBegin, MayStart, HasTable, MayDo, AddsRows, IsReady, AreBelow, BringsUp, ChangesRows, IsDone, IsRunLogged, LetsAllGo, IsRunUndone, IsEditedRun, LeavesTaken, TellsAlike}
use Rattle.live_edits.specs.Logged.{AllSeen, all_taken_back, cell_there, HasAllCells, IsLogged}
use Rattle.live_edits.specs.Noted.{TellLatest}
use Rattle.live_edits.specs.Runs.{table_of, HavePlaces, KeepsTables, AddsSlots, NumbersSlots, KeepsDraft}
use Rattle.live_edits.specs.Updated.{Updates}
use Rattle.std.proofs.lemmas.List.{drop_more, drop_all}
use Rattle.live_edits.proofs.AsideRows.{back-same}
use Rattle.live_edits.proofs.EditedBack.{alike-table-law}
use Rattle.live_edits.proofs.EditedRun.{edited-run-law}
use Rattle.live_edits.proofs.EditedSteps.{draft-same, draft-then}
use Rattle.live_edits.proofs.Logged.{all-taken-back-append, cells-stay}

-- lanes below a number, from the end of a list on

pub below-none : (n : ℕ) (all : List CellNotes) (k : ℕ) → length all ≤ k → AreBelow n (drop k all)
below-none n all k h c m = absurd (none-among c (subst (Among c) (drop_all k all h) m))

pub below-more : (n : ℕ) (all : List CellNotes) (k : ℕ) (x : CellNotes) → k < length all → x ≡ get_or all k x → x.lane < n → AreBelow n (drop (k + 1) all) → AreBelow n (drop k all)
below-more n all k x h own less rest c m = go (among-cases c x (drop (k + 1) all) (subst (Among c) (drop_more all k x h ∙ ap (λ d. d ∷ drop (k + 1) all) (sym own)) m))
  where
    go : (c ≡ x) ⊎ Among c (drop (k + 1) all) → c.lane < n
    go (inl e) = subst (λ (d : CellNotes). d.lane < n) (sym e) less
    go (inr a) = rest c a

-- further slots have numbers, and their lanes rows

pub adds-rows : (old new : EditRun) → AddsSlots old.lanes new.lanes → (length old.rows.rows.rows.items < 4294967296 → HasFurtherLanes (table_of old) (table_of new)) → length old.rows.rows.rows.items ≤ length new.rows.rows.rows.items → KeepsDraft old new → AddsRows old new
adds-rows old new a further long k = record {
  draft = k.draft;
  log = k.log;
  touched = k.touched;
  gone = k.gone;
  aside = k.aside;
  long = long;
  numbers = λ t f n. record {
    table = a.table n.table;
    reserved = ap (λ v. v.items) a.reserved ∙ n.reserved;
    ranges = ap (λ v. counts v.items) a.ranges ∙ n.ranges;
    slots = λ j b e i x s m h. a.slots s (n.slots j b e i x s m h);
  };
  further = further;
}

-- what a run begins with

module _ (t : Target) (es : List Edit) (first old : EditRun) (Taken : ℕ → Type 0) (may : MayBegin t first es) (takes : TakesSome first old Taken) where
  first-order : IsOrderOf first.draft.func first.draft.order
  first-order = record { positions = may.edited.computed.positions; homes = may.edited.computed.homes; layout = may.edited.computed.layout; numbered = may.edited.computed.numbered }

  -- rows may have been taken away before
  pub may-start : MayStart t old es
  may-start = record {
    draft = ap (λ (d : Draft). d.log.items) takes.others.draft ∙ may.fresh.draft;
    rows = ap (λ v. v.items) takes.others.log ∙ may.fresh.rows;
    touched = ap (λ v. v.items) takes.others.touched ∙ may.fresh.touched;
    gone = ap (λ s. s.keys) takes.others.gone ∙ may.fresh.gone;
    order = subst (λ (d : Draft). IsOrderOf d.func d.order) (sym takes.others.draft) first-order;
    function = subst (λ (d : Draft). IsFunction d.func.blocks d.func.next_id) (sym takes.others.draft) may.edited.function;
    numbers = subst (λ (d : Draft). NumbersAll t d.func old.lanes) (sym takes.others.draft) (subst (NumbersAll t first.draft.func) (sym takes.others.lanes) may.edited.computed.numbers);
    few = subst (λ n. n < 4294967296) (sym takes.lanes) (may.edited.computed.table (all t first.draft.func (table_of first) may.edited.computed may.edited.rules may.edited.last)).few;
    places = subst (λ (d : Draft). HavePlaces t d.func es) (sym takes.others.draft) may.edited.places;
    spare = subst (λ (d : Draft). SpareGone [] d.func es) (sym takes.others.draft) may.edited.spare;
  }

  -- all rows that were taken away have their places still
  pub still-there : (mid : EditRun) → IsRunLogged t old mid → AreThere mid.rows.rows.rows.items mid.aside.items
  still-there mid g r m =
      let within : r.lane < length old.rows.rows.rows.items = takes.there (λ q a. absurd (none-among q (subst (Among q) may.fresh.aside a))) r (subst (Among r) (ap (λ v. v.items) g.aside) m) in
      omega (arith, within, g.long)

-- nothing is edited yet
pub logged-none : (t : Target) (es : List Edit) (r : EditRun) → MayStart t r es → IsRunLogged t r r
logged-none t es r may = record {
  numbers = may.numbers;
  keeps = λ o n e. e;
  flow = refl;
  draft = draft-same r.draft may.order;
  aside = refl;
  long = omega arith;
  seen = λ l b. ap (λ xs. all_taken_back xs (rows_seen r.rows.rows.rows.items) l b) may.rows;
  cells = λ e m. absurd (none-among e (subst (Among e) may.rows m));
  few = may.few;
}

-- then further slots have numbers

module _ (t : Target) (es : List Edit) (old ready : EditRun) (may : MayStart t old es) (adds : AddsRows old ready) where
  abbrev f : Function
  f = old.draft.func

  further : HasFurtherLanes (table_of old) (table_of ready)
  further = adds.further may.few

  pub may-do : MayDo t ready es
  may-do = record {
    order = subst (λ (d : Draft). IsOrderOf d.func d.order) (sym adds.draft) may.order;
    function = subst (λ (d : Draft). IsFunction d.func.blocks d.func.next_id) (sym adds.draft) may.function;
    tells = subst (λ (xs : List TouchedInstr). TellLatest t ready.draft.func (number_in ready.lanes) ready.gone.keys xs) (sym (ap (λ v. v.items) adds.touched ∙ may.touched)) tt;
    apart = λ x m. absurd (none-among x (subst (Among x) (ap (λ v. v.items) adds.touched ∙ may.touched) m));
    places = subst (λ (d : Draft). HavePlaces t d.func es) (sym adds.draft) may.places;
  }

  pub is-ready : NumbersSlots ready.lanes es → IsReady t old ready es
  is-ready named = record {
    func = ap (λ (d : Draft). d.func) adds.draft;
    numbers = adds.numbers t f may.numbers;
    further = further;
    named = named;
    gone = λ id. ap (has id) (ap (λ s. s.keys) adds.gone ∙ may.gone);
    aside = adds.aside;
  }

  pub may-spare : SpareGone ready.gone.keys ready.draft.func es
  may-spare =
      subst (λ (gone : List ℕ). SpareGone gone ready.draft.func es) (sym (ap (λ s. s.keys) adds.gone ∙ may.gone))
      (subst (λ (d : Draft). SpareGone [] d.func es) (sym adds.draft) may.spare)

  no-log : ready.rows.log.items ≡ []
  no-log = ap (λ v. v.items) adds.log ∙ may.rows

  pub logged-first : IsRunLogged t old ready
  logged-first = record {
    numbers = adds.numbers t f may.numbers;
    keeps = further.numbers;
    flow = further.flow;
    draft = subst (IsDraftLogged old.draft) (sym adds.draft) (draft-same old.draft may.order);
    aside = adds.aside;
    long = adds.long;
    seen = λ l b. ap (λ es. all_taken_back es (rows_seen ready.rows.rows.rows.items) l b) no-log ∙ further.rows l b;
    cells = λ e m. absurd (none-among e (subst (Among e) no-log m));
    few = further.few;
  }

-- edits leave the rows

pub logged-edits : (t : Target) (old ready done : EditRun) → IsRunLogged t old ready → KeepsTables ready done → IsDraftLogged ready.draft done.draft → IsRunLogged t old done
logged-edits t old ready done h k d = record {
  numbers = subst (NumbersAll t old.draft.func) (sym k.lanes) h.numbers;
  keeps = subst (λ (ls : LaneTable). KeepsNumbers (number_in old.lanes) (number_in ls)) (sym k.lanes) h.keeps;
  flow = k.flow ∙ h.flow;
  draft = draft-then old.draft ready.draft done.draft h.draft d;
  aside = k.aside ∙ h.aside;
  long = subst (λ (r : LoggedRows). length old.rows.rows.rows.items ≤ length r.rows.rows.items) (sym k.rows) h.long;
  seen = λ l b. subst (λ (r : LoggedRows). all_taken_back r.log.items (rows_seen r.rows.rows.items) l b ≡ rows_seen old.rows.rows.rows.items l b) (sym k.rows) (h.seen l b);
  cells = subst (λ (r : LoggedRows). HasAllCells r.rows.rows.items r.log.items) (sym k.rows) h.cells;
  few = subst (λ (r : LoggedRows). length r.rows.rows.items < 4294967296) (sym k.rows) h.few;
}

-- then rows change

module _ (t : Target) (old done new : EditRun) (h : IsRunLogged t old done) (k : ChangesRows done new) (g : IsLogged done.rows new.rows) where
  abbrev rows : List LaneRange
  rows = new.rows.rows.rows.items

  seen-back : all_taken_back g.added (rows_seen rows) ≡ rows_seen done.rows.rows.rows.items
  seen-back = λ i. λ l b. g.back l b i

  cells-all : HasAllCells rows (done.rows.log.items ++ g.added)
  cells-all e m = go (among-split e done.rows.log.items g.added m)
    where
      go : Among e done.rows.log.items ⊎ Among e g.added → cell_there rows e ≡ true
      go (inl a) = cells-stay done.rows.rows.rows.items rows g.cells g.rooms done.rows.log.items h.cells e a
      go (inr a) = g.there e a

  pub logged-rows : IsRunLogged t old new
  logged-rows = record {
    numbers = subst (NumbersAll t old.draft.func) (sym k.lanes) h.numbers;
    keeps = subst (λ (ls : LaneTable). KeepsNumbers (number_in old.lanes) (number_in ls)) (sym k.lanes) h.keeps;
    flow = k.flow ∙ h.flow;
    draft = subst (IsDraftLogged old.draft) (sym k.draft) h.draft;
    aside = k.aside ∙ h.aside;
    long = subst (λ n. length old.rows.rows.rows.items ≤ n) (sym g.lanes) h.long;
    seen = λ l b.
        ap (λ es. all_taken_back es (rows_seen rows) l b) g.list
        ∙ (ap (λ (s : AllSeen). s l b) (all-taken-back-append done.rows.log.items g.added (rows_seen rows))
        ∙ (ap (λ (s : AllSeen). all_taken_back done.rows.log.items s l b) seen-back ∙ h.seen l b));
    cells = subst (HasAllCells rows) (sym g.list) cells-all;
    few = subst (λ n. n < 4294967296) (sym g.lanes) h.few;
  }

-- all is kept

module _ (t : Target) (es : List Edit) (v : ℕ) (first old mid new : EditRun) (erased : List ℕ) (may : MayBegin t first es) (takes : TakesRows first old v) (leaves : LeavesTaken es v first old) (d : IsDone t es old mid erased) (l : LetsAllGo mid new erased) where
  brings-new : BringsUp t d.done new
  brings-new =
      let b = d.brings in
      record {
        all = b.all;
        notes = b.notes;
        there = b.there;
        made = b.made;
        remade = b.remade;
        made_lanes = b.made_lanes;
        suspects = b.suspects;
        suspected = b.suspected;
        told = b.told;
        telling = b.telling;
        updated = subst (λ (r : LaneRanges). Updates b.told d.done.draft.order.slots d.done.flow.items b.made r.rows.items b.suspects) (sym l.rows) b.updated;
        lanes = ap (λ (r : LaneRanges). length r.rows.items) l.rows ∙ b.lanes;
      }

  goes-new : LetsGo d.done.draft.func new.draft.func d.done.draft.order new.draft.order erased
  goes-new =
      subst (λ (x : Draft). LetsGo x.func new.draft.func x.order new.draft.order erased) d.kept.draft
      (l.goes (subst (λ (x : Draft). IsOrderOf x.func x.order) (sym d.kept.draft) d.edits.does.order))

  is-run : IsEditedRun t es old d.edits.ready d.done new
  is-run = record {
    first = d.edits.first;
    does = d.edits.does;
    small = d.edits.small;
    brings = brings-new;
    erased = erased;
    erases = d.erases;
    goes = goes-new;
    short = l.short;
    lanes = l.lanes ∙ d.kept.lanes;
    flow = l.flow ∙ d.kept.flow;
  }

  pub all-kept : HasTable t (all_edited first.draft.func es) new
  all-kept = let r = edited-run-law t es v first old d.edits.ready d.done new may.edited may.fresh.aside takes leaves is-run in record { func = r.0; computed = r.1; fresh = l.fresh }

-- all is taken back

-- first: before; old: where rows may have been taken away

pub keeps-first : (t : Target) (first old mid : EditRun) (Taken : ℕ → Type 0) → TakesSome first old Taken → IsRunLogged t old mid → KeepsNumbers (number_in first.lanes) (number_in mid.lanes)
keeps-first t first old mid Taken takes g = subst (λ (ls : LaneTable). KeepsNumbers (number_in ls) (number_in mid.lanes)) takes.others.lanes g.keeps

module _ (t : Target) (es : List Edit) (first old mid new : EditRun) (Taken : ℕ → Type 0) (may : MayBegin t first es) (takes : TakesSome first old Taken) (g : IsRunLogged t old mid) (u : IsRunUndone mid new) where
  log-is : mid.draft.log.items ≡ g.draft.added
  log-is = g.draft.list ∙ ap (λ xs. xs ++ g.draft.added) (ap (λ (d : Draft). d.log.items) takes.others.draft ∙ may.fresh.draft)

  func-back : new.draft.func ≡ first.draft.func
  func-back = u.func ∙ (ap (λ xs. all_undone xs mid.draft.func) log-is ∙ (g.draft.back ∙ ap (λ (d : Draft). d.func) takes.others.draft))

  -- rows are seen as before
  pub seen-first : (l b : ℕ) → rows_seen new.rows.rows.rows.items l b ≡ rows_seen first.rows.rows.rows.items l b
  seen-first l b =
      u.seen l b
      ∙ (back-same mid.aside.items (all_taken_back mid.rows.log.items (rows_seen mid.rows.rows.rows.items)) (rows_seen old.rows.rows.rows.items) g.seen l b
      ∙ (ap (λ v. put_back v.items (rows_seen old.rows.rows.rows.items) l b) g.aside
      ∙ (takes.back l b ∙ ap (λ xs. put_back xs (rows_seen first.rows.rows.rows.items) l b) may.fresh.aside)))

  tells : TellsAlike t first.draft.func (table_of first) (table_of new)
  tells = record {
    numbers = subst (NumbersAll t first.draft.func) (sym u.lanes) (subst (λ (d : Draft). NumbersAll t d.func mid.lanes) takes.others.draft g.numbers);
    keeps = subst (λ (ls : LaneTable). KeepsNumbers (number_in first.lanes) (number_in ls)) (sym u.lanes) (keeps-first t first old mid Taken takes g);
    flow = u.flow ∙ (g.flow ∙ takes.others.flow);
    order = subst (λ (h : Function). IsOrderOf h new.draft.order) func-back u.order;
    small = u.small;
    seen = seen-first;
    few = subst (λ n. n < 4294967296) (sym u.rows) g.few;
  }

  pub all-back : HasTable t first.draft.func new
  all-back = record {
    func = func-back;
    computed =
        alike-table-law t first.draft.func (table_of first) (table_of new) may.edited.computed may.edited.rules may.edited.last may.edited.function
        (subst (λ (h : Function). h.next_id < 4294967296) func-back u.short) may.edited.blocks tells;
    fresh = u.fresh;
  }
