-- Rows of a range that no instruction names after edits: they are taken away whole.
use Rattle.std.specs.Prelude.{◌≡◌, ◌⊎◌, ◌<◌, ◌&&◌, ℕ, Bool, true, false, cond, not, nat_eq, length, List, [], ◌∷◌, Some, flat_map}
use Rattle.std.specs.List.{list_all, list_any}
use Rattle.target_base.specs.declared.types.Target.{Target}
use Rattle.mir_func.specs.declared.func.Operand.{Operand}
use Rattle.mir_func.specs.declared.func.Operand.TheVariants as operands
use Rattle.mir_func.specs.Value.{Function, IsFunction}
use Rattle.mir_meaning.specs.Paths.{Among, has}
use Rattle.mir_meaning.specs.Points.{is_range}
use Rattle.instr_effects.specs.declared.lane_acts.LaneAct.{LaneAct}
use Rattle.instr_effects.specs.declared.owner.Owner.TheVariants as owners
use Rattle.instr_effects.specs.Numbered.{number_in, IsTable}
use Rattle.live_lanes.specs.declared.row.LaneRange.{LaneRange}
use Rattle.live_lanes.specs.declared.row.LaneUse.{LaneUse}
use Rattle.live_lanes.specs.declared.table.Table.{Table}
use Rattle.live_lanes.specs.Doing.{lane_code}
use Rattle.live_lanes.specs.Entered.{rows_seen, IsTableOf}
use Rattle.live_lanes.specs.Table.{Seen, Begun, seen_in, unseen}
use Rattle.edit_laws.specs.Deferred.{standing_code, TouchesEdits}
use Rattle.edit_laws.specs.Edits.{Edit, Put, Replace, Erase}
use Rattle.edit_laws.specs.LetGo.{IsUnnamed}
use Rattle.edit_laws.specs.Reasons.{Touched}
use Rattle.live_edits.specs.declared.aside.AsideRow.{AsideRow}
use Rattle.live_edits.specs.declared.edit_run.EditRun.{EditRun}
use Rattle.live_edits.specs.Logged.{AllSeen}

-- the operand names the range
abbrev pub names_range : ℕ → Operand → Bool
names_range v (operands.Reg o) = is_range v o.loc
names_range v _ = false

-- one of the operands does
abbrev pub any_names : ℕ → List Operand → Bool
any_names v os = list_any (names_range v) os

-- an operand that the edit brings does
abbrev pub brings : ℕ → Edit → Bool
brings v (Put gap op os) = any_names v os
brings v (Replace id op os) = any_names v os
brings v (Erase id) = false

-- the ids of the instructions that edits replace or erase
abbrev pub changed_by : Edit → List ℕ
changed_by (Put gap op os) = []
changed_by (Replace id op os) = id ∷ []
changed_by (Erase id) = id ∷ []

abbrev pub changed_ids : List Edit → List ℕ
changed_ids es = flat_map changed_by es

-- a lane's cell names no instructions but those that the test tells, and no phi reads it where the block ends
abbrev pub are_told : (ℕ → Bool) → List LaneUse → Bool
are_told told rs = list_all (λ r. told r.id) rs

abbrev pub is_begun_told : (ℕ → Bool) → Begun → Bool
is_begun_told told s = told s.start && are_told told s.readings

abbrev pub is_all_told : (ℕ → Bool) → Seen → Bool
is_all_told told v = not v.is_read_last && (are_told told v.readings && list_all (is_begun_told told) v.segments)

-- Edits bring no operand that names the range, and all that the table tells of its lanes is of instructions that they replace or erase.
pub record LeavesNone (x : Table) (es : List Edit) (v : ℕ) : Type 0 where
  pub brings : list_any (brings v) es ≡ false
  pub told : (k l b : ℕ) → number_in x.lanes (owners.Range v k) ≡ Some l → is_all_told (λ id. has id (changed_ids es)) (rows_seen x.rows.rows.items l b) ≡ true

-- then the code in which erased instructions stand names none of them, as one sees lane by lane
abbrev pub UnnamedLaw : Type 0
UnnamedLaw =
    (touched : Touched) (t : Target) (f : Function) (x : Table) (es : List Edit) (v k l : ℕ) → IsFunction f.blocks f.next_id → IsTable x.lanes
    → IsTableOf (lane_code t f (number_in x.lanes)) x.order.slots x.flow.items x.rows.rows.items → TouchesEdits touched t f (number_in x.lanes) es
    → list_any (brings v) es ≡ false → number_in x.lanes (owners.Range v k) ≡ Some l → ((b : ℕ) → is_all_told (λ id. has id (changed_ids es)) (rows_seen x.rows.rows.items l b) ≡ true)
    → IsUnnamed (standing_code t f (number_in x.lanes) es) l

-- rows that were taken away

-- the row of the lane was
abbrev pub is_aside : List AsideRow → ℕ → Bool
is_aside rows l = list_any (λ r. nat_eq r.lane l) rows

-- what is seen once they are put back, the last one first
abbrev pub put_back : List AsideRow → AllSeen → AllSeen
put_back [] seen l b = seen l b
put_back (r ∷ rs) seen l b = cond (nat_eq r.lane l) (seen_in r.row.cells.items b) (put_back rs seen l b)

-- each has its place
abbrev pub AreThere : List LaneRange → List AsideRow → Type 0
AreThere rows aside = (r : AsideRow) → Among r aside → r.lane < length rows

-- only pieces change, and which of them are taken away
pub record KeepsOthers (old new : EditRun) : Type 0 where
  pub draft : new.draft ≡ old.draft
  pub lanes : new.lanes ≡ old.lanes
  pub flow : new.flow ≡ old.flow
  pub log : new.rows.log ≡ old.rows.log
  pub touched : new.touched ≡ old.touched
  pub gone : new.gone ≡ old.gone

-- Rows of such lanes are taken away, which are empty then. Put back, all is seen as before.
pub record TakesSome (old new : EditRun) (Taken : ℕ → Type 0) : Type 0 where
  pub others : KeepsOthers old new
  pub lanes : length new.rows.rows.rows.items ≡ length old.rows.rows.rows.items
  pub back : (l b : ℕ) → put_back new.aside.items (rows_seen new.rows.rows.rows.items) l b ≡ put_back old.aside.items (rows_seen old.rows.rows.rows.items) l b
  pub empty : (l b : ℕ) → (is_aside old.aside.items l ≡ true → rows_seen old.rows.rows.rows.items l b ≡ unseen) → is_aside new.aside.items l ≡ true → rows_seen new.rows.rows.rows.items l b ≡ unseen
  pub left : (l b : ℕ) → is_aside new.aside.items l ≡ false → rows_seen new.rows.rows.rows.items l b ≡ rows_seen old.rows.rows.rows.items l b
  pub there : AreThere old.rows.rows.rows.items old.aside.items → AreThere new.rows.rows.rows.items new.aside.items
  pub grows : (l : ℕ) → is_aside old.aside.items l ≡ true → is_aside new.aside.items l ≡ true
  pub only : (l : ℕ) → is_aside new.aside.items l ≡ true → (is_aside old.aside.items l ≡ true) ⊎ Taken l

-- the row of a lane, and those of a range
abbrev pub IsRowTaken : EditRun → EditRun → ℕ → Type 0
IsRowTaken old new lane = TakesSome old new (λ l. l ≡ lane)

abbrev pub TakesRows : EditRun → EditRun → ℕ → Type 0
TakesRows old new v = TakesSome old new (λ l. (k : ℕ) × (number_in old.lanes (owners.Range v k) ≡ Some l))

-- one row is put back
pub record IsRowPutBack (old new : EditRun) (row : AsideRow) : Type 0 where
  pub others : KeepsOthers old new
  pub aside : new.aside ≡ old.aside
  pub lanes : length new.rows.rows.rows.items ≡ length old.rows.rows.rows.items
  pub seen : row.lane < length old.rows.rows.rows.items → (l b : ℕ) → rows_seen new.rows.rows.rows.items l b ≡ cond (nat_eq row.lane l) (seen_in row.row.cells.items b) (rows_seen old.rows.rows.rows.items l b)

-- all are
pub record IsPutBack (old new : EditRun) : Type 0 where
  pub others : KeepsOthers old new
  pub lanes : length new.rows.rows.rows.items ≡ length old.rows.rows.rows.items
  pub none : new.aside.items ≡ []
  pub seen : AreThere old.rows.rows.rows.items old.aside.items → (l b : ℕ) → rows_seen new.rows.rows.rows.items l b ≡ put_back old.aside.items (rows_seen old.rows.rows.rows.items) l b

-- those of acts that are on lanes whose rows weren't taken away
pub record LeavesOut (aside : List AsideRow) (acts own : List LaneAct) : Type 0 where
  pub whole : (a : LaneAct) → Among a acts → is_aside aside a.lane ≡ false → Among a own
  pub within : (a : LaneAct) → Among a own → Among a acts × (is_aside aside a.lane ≡ false)
