-- What runs of edits leave of a function with its table.
use Rattle.std.proofs.Common.{◌≡◌, ◌∙◌, ℕ, List, Option, Some, length, refl, sym, ap, subst}
use Rattle.target_base.specs.declared.types.Target.{Target}
use Rattle.mir_func.specs.Value.{Function}
use Rattle.instr_effects.specs.declared.owner.Owner.TheVariants as owners
use Rattle.instr_effects.specs.Numbered.{number_in}
use Rattle.live_lanes.specs.declared.live.LiveFunc.{LiveFunc}
use Rattle.live_lanes.specs.declared.order.Order.{Order}
use Rattle.live_lanes.specs.declared.row.LaneRange.{LaneRange}
use Rattle.live_lanes.specs.declared.table.Table.{Table}
use Rattle.live_lanes.specs.declared.ask.extent.ChangedPiece.{ChangedPiece}
use Rattle.live_lanes.specs.Doing.{IsComputed}
use Rattle.live_lanes.specs.Extents.{extents_in}
use Rattle.live_lanes.specs.Entered.{rows_seen}
use Rattle.edit_laws.specs.Edits.{Edit, all_edited}
use Rattle.live_edits.specs.declared.aside.AsideRow.{AsideRow}
use Rattle.live_edits.specs.declared.draft.FormerInstr.{FormerInstr}
use Rattle.live_edits.specs.declared.edit_run.EditRun.{EditRun}
use Rattle.live_edits.specs.declared.fold.Join.{Join}
use Rattle.live_edits.specs.declared.live.EditChanges.{EditChanges}
use Rattle.live_edits.specs.declared.log.Former.{Former}
use Rattle.live_edits.specs.Aside.{AreThere, put_back}
use Rattle.live_edits.specs.Drafts.{IsOrderOf, LetsGo, all_undone}
use Rattle.live_edits.specs.EditedRuns.{IsFresh, MayBegin, HasTable, IsDoneOf, IsLoggedOf, LetsAllGo, IsRunUndone}
use Rattle.live_edits.specs.Folded.{folded, MayBeFolded, MayFold}
use Rattle.live_edits.specs.Logged.{HasAllCells, all_taken_back}
use Rattle.live_edits.specs.LiveRuns.{IsExact, IsRunOf, HasLogs, IsBegun, MayBeEditedLive, MayBeFoldedLive}
use Rattle.live_edits.specs.Runs.{table_of, MayBeEdited}
use Rattle.live_edits.specs.Told.{TellsPieces}
use Rattle.live_edits.proofs.EditedParts.{all-kept, all-back, seen-first, still-there}
use Rattle.live_edits.proofs.ToldRuns.{extents-same}

-- what a run of the function has, it has too
exact-live : (t : Target) (f : Function) (r : EditRun) (x : LiveFunc) → HasTable t f r → IsRunOf r x → IsExact t f x
exact-live t f r x has of = record {
  func = sym of.func ∙ has.func;
  computed = subst (IsComputed t f) of.table has.computed;
}

pub stays-edited : (x : LiveFunc) (es : List Edit) → MayBeEditedLive x es → IsExact x.target x.func x
stays-edited x es may = record { func = refl; computed = may.computed }

pub stays-joined : (x : LiveFunc) (j : Join) (ids : List ℕ) → MayBeFoldedLive x j ids → IsExact x.target x.func x
stays-joined x j ids may = record { func = refl; computed = may.computed }

-- what edits ask of the function, they ask of a fresh run of it
may-begin-run : (t : Target) (es : List Edit) (r : EditRun) (x : LiveFunc) → t ≡ x.target → IsRunOf r x → IsFresh r → MayBeEditedLive x es → MayBegin t r es
may-begin-run t es r x same of fresh may = record {
  fresh = fresh;
  edited =
      subst (λ (u : Target). MayBeEdited u r.draft.func (table_of r) es) (sym same)
      (subst (λ (f : Function). MayBeEdited x.target f (table_of r) es) (sym of.func) (subst (λ (y : Table). MayBeEdited x.target x.func y es) (sym of.table) may));
}

-- and so do joins
may-fold-run : (t : Target) (j : Join) (ids : List ℕ) (r : EditRun) (x : LiveFunc) → t ≡ x.target → IsRunOf r x → IsFresh r → MayBeFoldedLive x j ids → MayFold t r j ids
may-fold-run t j ids r x same of fresh may = record {
  fresh = fresh;
  join =
      subst (λ (u : Target). MayBeFolded u r.draft.func (table_of r) j ids) (sym same)
      (subst (λ (f : Function). MayBeFolded x.target f (table_of r) j ids) (sym of.func) (subst (λ (y : Table). MayBeFolded x.target x.func y j ids) (sym of.table) may));
}

-- from a fresh run of a function to the run of another
module _ (t : Target) (es : List Edit) (old new : LiveFunc) (first last : EditRun) (same : t ≡ old.target) (from : IsRunOf first old) (fresh : IsFresh first) (to : IsRunOf last new) where
  pub begun : (changes : EditChanges) → HasLogs last changes.logs → (MayBegin t first es → IsDoneOf t es first last changes.erased.items) → (MayBegin t first es → IsLoggedOf t first last) → MayBeEditedLive old es → IsBegun es old new changes
  begun changes logs done logged may =
      let b = may-begin-run t es first old same from fresh may in
      record {
        may = may;
        first = first;
        from = from;
        fresh = fresh;
        last = last;
        to = to;
        logs = logs;
        done = subst (λ (u : Target). IsDoneOf u es first last changes.erased.items) same (done b);
        logged = subst (λ (u : Target). IsLoggedOf u first last) same (logged b);
      }

  pub told-live : (v : Option ℕ) (pieces : List ChangedPiece) → (MayBegin t first es → TellsPieces (table_of first) (table_of last) v pieces) → MayBeEditedLive old es → TellsPieces old.table new.table v pieces
  told-live v pieces told may =
      subst (λ (y : Table). TellsPieces old.table y v pieces) to.table
      (subst (λ (y : Table). TellsPieces y (table_of last) v pieces) from.table (told (may-begin-run t es first old same from fresh may)))

  pub extents-back : (MayBegin t first es → (l k : ℕ) → rows_seen last.rows.rows.rows.items l k ≡ rows_seen first.rows.rows.rows.items l k) → MayBeEditedLive old es → (l k : ℕ) → extents_in new.table l k ≡ extents_in old.table l k
  extents-back seen may =
      subst (λ (y : Table). (l k : ℕ) → extents_in y l k ≡ extents_in old.table l k) to.table
      (subst (λ (y : Table). (l k : ℕ) → extents_in (table_of last) l k ≡ extents_in y l k) from.table (extents-same (table_of first) (table_of last) (seen (may-begin-run t es first old same from fresh may))))

  pub ranges-live : (MayBegin t first es → last.lanes.ranges ≡ first.lanes.ranges) → MayBeEditedLive old es → new.table.lanes.ranges ≡ old.table.lanes.ranges
  ranges-live kept may =
      ap (λ (y : Table). y.lanes.ranges) (sym to.table) ∙ (kept (may-begin-run t es first old same from fresh may) ∙ ap (λ (y : Table). y.lanes.ranges) from.table)

  pub back : (MayBegin t first es → HasTable t first.draft.func last) → MayBeEditedLive old es → IsExact old.target old.func new
  back has may =
      subst (λ (u : Target). IsExact u old.func new) same
      (subst (λ (f : Function). IsExact t f new) from.func (exact-live t first.draft.func last new (has (may-begin-run t es first old same from fresh may)) to))

module _ (t : Target) (j : Join) (ids : List ℕ) (old new : LiveFunc) (first last : EditRun) (same : t ≡ old.target) (from : IsRunOf first old) (fresh : IsFresh first) (to : IsRunOf last new) where
  pub joined-run : (MayFold t first j ids → HasTable t (folded t j first.draft.func) last) → MayBeFoldedLive old j ids → IsExact old.target (folded old.target j old.func) new
  joined-run has may =
      subst (λ (u : Target). IsExact u (folded u j old.func) new) same
      (subst (λ (f : Function). IsExact t (folded t j f) new) from.func (exact-live t (folded t j first.draft.func) last new (has (may-fold-run t j ids first old same from fresh may)) to))

  pub joined-back : (MayFold t first j ids → HasTable t first.draft.func last) → MayBeFoldedLive old j ids → IsExact old.target old.func new
  joined-back has may =
      subst (λ (u : Target). IsExact u old.func new) same
      (subst (λ (f : Function). IsExact t f new) from.func (exact-live t first.draft.func last new (has (may-fold-run t j ids first old same from fresh may)) to))

-- two runs of one function
module _ (a b : EditRun) (x : LiveFunc) (of-a : IsRunOf a x) (of-b : IsRunOf b x) where
  same-func : a.draft.func ≡ b.draft.func
  same-func = of-a.func ∙ sym of-b.func

  same-table : table_of a ≡ table_of b
  same-table = of-a.table ∙ sym of-b.table

  same-order : a.draft.order ≡ b.draft.order
  same-order = ap (λ (y : Table). y.order) same-table

  same-rows : a.rows.rows.rows.items ≡ b.rows.rows.rows.items
  same-rows = ap (λ (y : Table). y.rows.rows.items) same-table

  order-alike : IsOrderOf b.draft.func b.draft.order → IsOrderOf a.draft.func a.draft.order
  order-alike o = subst (λ (f : Function). IsOrderOf f a.draft.order) (sym same-func) (subst (IsOrderOf b.draft.func) (sym same-order) o)

  go-alike : (new : EditRun) (erased : List ℕ) → LetsAllGo a new erased → LetsAllGo b new erased
  go-alike new erased l = record {
    goes = λ o.
        subst (λ (f : Function). LetsGo f new.draft.func b.draft.order new.draft.order erased) same-func
        (subst (λ (y : Order). LetsGo a.draft.func new.draft.func y new.draft.order erased) same-order (l.goes (order-alike o)));
    short = l.short;
    lanes = l.lanes ∙ ap (λ (y : Table). y.lanes) same-table;
    flow = l.flow ∙ ap (λ (y : Table). y.flow) same-table;
    rows = l.rows ∙ ap (λ (y : Table). y.rows) same-table;
    fresh = l.fresh;
  }

  cells-alike : a.rows.log.items ≡ b.rows.log.items → HasAllCells b.rows.rows.rows.items b.rows.log.items → HasAllCells a.rows.rows.rows.items a.rows.log.items
  cells-alike logs cells = subst (λ (rs : List LaneRange). HasAllCells rs a.rows.log.items) (sym same-rows) (subst (HasAllCells b.rows.rows.rows.items) (sym logs) cells)

  there-alike : a.aside.items ≡ b.aside.items → AreThere b.rows.rows.rows.items b.aside.items → AreThere a.rows.rows.rows.items a.aside.items
  there-alike asides there = subst (λ (rs : List LaneRange). AreThere rs a.aside.items) (sym same-rows) (subst (AreThere b.rows.rows.rows.items) (sym asides) there)

  undone-alike : (new : EditRun) → a.draft.log.items ≡ b.draft.log.items → a.rows.log.items ≡ b.rows.log.items → a.aside.items ≡ b.aside.items → IsRunUndone a new → IsRunUndone b new
  undone-alike new logs row-logs asides u = record {
    func = u.func ∙ (ap (λ (es : List FormerInstr). all_undone es a.draft.func) logs ∙ ap (all_undone b.draft.log.items) same-func);
    order = u.order;
    small = u.small;
    short = u.short;
    seen = λ l k.
        u.seen l k
        ∙ (ap (λ (es : List Former). put_back a.aside.items (all_taken_back es (rows_seen a.rows.rows.rows.items)) l k) row-logs
        ∙ (ap (λ (rs : List LaneRange). put_back a.aside.items (all_taken_back b.rows.log.items (rows_seen rs)) l k) same-rows
        ∙ ap (λ (xs : List AsideRow). put_back xs (all_taken_back b.rows.log.items (rows_seen b.rows.rows.rows.items)) l k) asides));
    rows = u.rows ∙ ap length same-rows;
    lanes = u.lanes ∙ ap (λ (y : Table). y.lanes) same-table;
    flow = u.flow ∙ ap (λ (y : Table). y.flow) same-table;
    fresh = u.fresh;
  }

-- edits that were begun are kept
pub committed : (es : List Edit) (before old new : LiveFunc) (changes : EditChanges) (run kept : EditRun) → IsBegun es before old changes → IsRunOf run old → LetsAllGo run kept changes.erased.items → IsRunOf kept new → IsExact before.target (all_edited before.func es) new
committed es before old new changes run kept b of goes to =
    let t : Target = before.target in
    let d = b.done in
    let go : LetsAllGo b.last kept changes.erased.items = go-alike run b.last old of b.to kept changes.erased.items goes in
    let has : HasTable t (all_edited b.first.draft.func es) kept =
    all-kept t es d.clears.range b.first d.cleared b.last kept changes.erased.items (may-begin-run t es b.first before refl b.from b.fresh b.may) d.clears.takes d.clears.leaves d.done go in
    subst (λ (f : Function). IsExact t (all_edited f es) new) b.from.func (exact-live t (all_edited b.first.draft.func es) kept new has to)

abbrev TakenOf : EditRun → ℕ → ℕ → Type 0
TakenOf r v l = (k : ℕ) × (number_in r.lanes (owners.Range v k) ≡ Some l)

-- they are taken back
module _ (es : List Edit) (before old new : LiveFunc) (changes : EditChanges) (run undone : EditRun) (b : IsBegun es before old changes) (of : IsRunOf run old) (has : HasLogs run changes.logs)
    (undoes : IsOrderOf run.draft.func run.draft.order → HasAllCells run.rows.rows.rows.items run.rows.log.items → AreThere run.rows.rows.rows.items run.aside.items → IsRunUndone run undone) (to : IsRunOf undone new) where
  abbrev t : Target
  t = before.target

  abbrev z : IsLoggedOf t b.first b.last
  z = b.logged

  first-may : MayBegin t b.first es
  first-may = may-begin-run t es b.first before refl b.from b.fresh b.may

  last-undone : IsRunUndone b.last undone
  last-undone =
      let g = z.logged in
      let logs : run.draft.log.items ≡ b.last.draft.log.items = ap (λ v. v.items) (sym has.draft ∙ b.logs.draft) in
      let row-logs : run.rows.log.items ≡ b.last.rows.log.items = ap (λ v. v.items) (sym has.rows ∙ b.logs.rows) in
      let asides : run.aside.items ≡ b.last.aside.items = ap (λ v. v.items) (sym has.aside ∙ b.logs.aside) in
      let rows-there : AreThere run.rows.rows.rows.items run.aside.items =
      there-alike run b.last old of b.to asides (still-there t es b.first z.cleared (TakenOf b.first z.range) first-may z.takes b.last g) in
      let u : IsRunUndone run undone = undoes (order-alike run b.last old of b.to g.draft.order) (cells-alike run b.last old of b.to row-logs g.cells) rows-there in
      undone-alike run b.last old of b.to undone logs row-logs asides u

  pub taken : IsExact before.target before.func new
  taken =
      let done : HasTable t b.first.draft.func undone =
      all-back t es b.first z.cleared b.last undone (TakenOf b.first z.range) first-may z.takes z.logged last-undone in
      subst (λ (f : Function). IsExact t f new) b.from.func (exact-live t b.first.draft.func undone new done to)

  -- the extents of all lanes are as before
  pub taken-extents : (l k : ℕ) → extents_in new.table l k ≡ extents_in before.table l k
  taken-extents =
      subst (λ (y : Table). (l k : ℕ) → extents_in y l k ≡ extents_in before.table l k) to.table
      (subst (λ (y : Table). (l k : ℕ) → extents_in (table_of undone) l k ≡ extents_in y l k) b.from.table
      (extents-same (table_of b.first) (table_of undone) (seen-first t es b.first z.cleared b.last undone (TakenOf b.first z.range) first-may z.takes z.logged last-undone)))

  -- lanes have the numbers that they had
  pub taken-lanes : new.table.lanes ≡ old.table.lanes
  taken-lanes = ap (λ (y : Table). y.lanes) (sym to.table) ∙ (last-undone.lanes ∙ ap (λ (y : Table). y.lanes) b.to.table)
