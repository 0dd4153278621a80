-- Edits of a function with what is live in it, by runs of edits.
use Rattle.std.specs.Prelude.{◌≡◌, ℕ, List}
use Rattle.target_base.specs.declared.types.Target.{Target}
use Rattle.mir_func.specs.Value.{Function}
use Rattle.live_lanes.specs.declared.live.LiveFunc.{LiveFunc}
use Rattle.live_lanes.specs.Doing.{IsComputed}
use Rattle.edit_laws.specs.Edits.{Edit}
use Rattle.live_edits.specs.declared.edit_run.EditRun.{EditRun}
use Rattle.live_edits.specs.declared.fold.Join.{Join}
use Rattle.live_edits.specs.declared.live.EditChanges.{EditChanges}
use Rattle.live_edits.specs.declared.live.EditLogs.{EditLogs}
use Rattle.live_edits.specs.EditedRuns.{IsFresh, IsDoneOf, IsLoggedOf}
use Rattle.live_edits.specs.Folded.{MayBeFolded}
use Rattle.live_edits.specs.Runs.{table_of, MayBeEdited}

-- the function with a table that is computed for it
pub record IsExact (t : Target) (f : Function) (x : LiveFunc) : Type 0 where
  pub func : x.func ≡ f
  pub computed : IsComputed t f x.table

-- what a list of edits asks of a function with what is live in it
abbrev pub MayBeEditedLive : LiveFunc → List Edit → Type 0
MayBeEditedLive x es = MayBeEdited x.target x.func x.table es

-- what a join asks of it
abbrev pub MayBeFoldedLive : LiveFunc → Join → List ℕ → Type 0
MayBeFoldedLive x j ids = MayBeFolded x.target x.func x.table j ids

-- the run has this function and this table
pub record IsRunOf (r : EditRun) (x : LiveFunc) : Type 0 where
  pub func : r.draft.func ≡ x.func
  pub table : table_of r ≡ x.table

-- what takes back what the run did
pub record HasLogs (r : EditRun) (logs : EditLogs) : Type 0 where
  pub draft : logs.draft ≡ r.draft.log
  pub rows : logs.rows ≡ r.rows.log
  pub aside : logs.aside ≡ r.aside

-- Edits are begun: a run did them, in which erased instructions still stand, and what takes them back is kept.
pub record IsBegun (es : List Edit) (old new : LiveFunc) (changes : EditChanges) : Type 0 where
  pub may : MayBeEditedLive old es
  pub first : EditRun
  pub from : IsRunOf first old
  pub fresh : IsFresh first
  pub last : EditRun
  pub to : IsRunOf last new
  pub logs : HasLogs last changes.logs
  pub done : IsDoneOf old.target es first last changes.erased.items
  pub logged : IsLoggedOf old.target first last
