-- What becomes of the readings of a piece where an instruction reads the lane otherwise.
use Rattle.std.proofs.Common.{◌≡◌, ◌≤◌, ℕ, zero, suc, Bool, true, false, cond, length, List, [], ◌∷◌, ◌++◌, Option, None, Some, take, drop, refl, sym, ap, ◌∙◌, eqb-true}
use Rattle.std.specs.Prelude.{nat_eq, is_some}
use Rattle.std.specs.List.{insert}
use Rattle.std.proofs.lemmas.Bool.{le-leb}
use Rattle.instr_effects.specs.declared.lane_acts.LaneRead.{LaneRead}
use Rattle.live_lanes.specs.declared.row.LaneUse.{LaneUse}
use Rattle.live_lanes.specs.Table.{Numbers, Seen, changed_at}
use Rattle.live_lanes.specs.Entered.{reading, reading_of}
use Rattle.edit_laws.specs.LaneSteps as laws
use Rattle.live_edits.specs.CellChanges.{with_readings, piece_readings, readings_changed, reading_put, reading_into, reading_added}
use Rattle.live_edits.specs.RemadeSteps.{use_of_read}
use Rattle.live_edits.specs.Renoted.{under, CutsPieces, CutsReadings, first_read, without_first, NotesReading}
use Rattle.live_edits.proofs.RenoteNoted.{read-same, read-new}
use Rattle.live_edits.proofs.RenoteLives.{same-first, readings-first, readings-lived}
use Rattle.live_edits.proofs.Untold.{readings-extents}

-- the readings before the instruction, its own one if there is any, and those of the instructions behind it
abbrev pub readings_with : ℕ → ℕ → Option LaneRead → List LaneUse → List LaneUse
readings_with id at read rs = take at rs ++ (reading_of id (use_of_read read) ++ without_first id (drop at rs))

abbrev read_if : Bool → LaneUse → Option LaneRead
read_if t r = cond t (Some (record { into = r.into })) None

one-reading : (id : ℕ) (read : LaneRead) → reading_of id (use_of_read (Some read)) ≡ reading id read.into ∷ []
one-reading id read = go read.into
  where
    go : (o : Option ℕ) → reading_of id (laws.use_told o) ≡ reading id o ∷ []
    go None = refl
    go (Some a) = refl

all-behind : (id : ℕ) (rs : List LaneUse) → first_read id rs ≡ None → without_first id rs ≡ rs
all-behind id [] none = refl
all-behind id (r ∷ rs) none = go (nat_eq r.id id) none
  where
    go : (t : Bool) → read_if t r ≡ None → cond t rs (r ∷ rs) ≡ r ∷ rs
    go true e = absurd (cc)
    go false e = refl

-- a reading comes
pub read-comes : (id at : ℕ) (read : LaneRead) (rs : List LaneUse) → at ≤ length rs → first_read id (drop at rs) ≡ None → reading_put at (reading id read.into) rs ≡ readings_with id at (Some read) rs
read-comes id at read rs h none =
    ap (λ t. cond t (insert rs at (reading id read.into)) rs) (le-leb at (length rs) h)
    ∙ (λ i. take at rs ++ (sym (one-reading id read) i ++ sym (all-behind id (drop at rs) none) i))

-- one moves its lane elsewhere
pub read-moves : (id at : ℕ) (read : LaneRead) (rs : List LaneUse) → is_some (first_read id (drop at rs)) ≡ true → changed_at at (reading_into read.into) rs ≡ readings_with id at (Some read) rs
read-moves id zero read [] some = absurd (cc)
read-moves id (suc at) read [] some = absurd (cc)
read-moves id zero read (r ∷ rs) some = go (nat_eq r.id id) refl some
  where
    go : (t : Bool) → nat_eq r.id id ≡ t → is_some (read_if t r) ≡ true → reading_into read.into r ∷ rs ≡ reading_of id (use_of_read (Some read)) ++ cond t rs (r ∷ rs)
    go true e f = (λ i. reading (eqb-true r.id id e i) read.into ∷ rs) ∙ ap (λ xs. xs ++ rs) (sym (one-reading id read))
    go false e f = absurd (cc)
read-moves id (suc at) read (r ∷ rs) some = ap (λ t. r ∷ t) (read-moves id at read rs some)

module _ (slots : Numbers) (id : ℕ) (v : Seen) (k : ℕ) (within : k ≤ length v.segments) (cut : CutsPieces slots id v.segments k) (at : ℕ) (those : CutsReadings (under slots id) (piece_readings v.readings v.segments k) at) (read : Option LaneRead) where
  abbrev own : List LaneUse
  own = piece_readings v.readings v.segments k

  -- the cell tells it already
  pub notes-same : first_read id (drop at own) ≡ read → NotesReading slots id (use_of_read read) v v
  notes-same same = record { told = read-same slots id v k within cut at those read same; first = same-first v; lives = refl; extents = refl }

  -- the piece gets these readings
  pub notes-readings : (new : List LaneUse) → new ≡ readings_with id at read own → NotesReading slots id (use_of_read read) v (with_readings v k new)
  notes-readings new is = record { told = read-new slots id v k within cut at those read new is; first = readings-first v k new; lives = readings-lived v k new; extents = readings-extents v k new }

  -- its reading goes
  pub notes-gone : (left : List LaneUse) → read ≡ None → left ≡ take at own ++ without_first id (drop at own) → NotesReading slots id (use_of_read read) v (with_readings v k left)
  notes-gone left none is = notes-readings left (is ∙ ap (λ o. readings_with id at o own) (sym none))

  -- it moves the lane elsewhere
  pub notes-moved : (r : LaneRead) → read ≡ Some r → is_some (first_read id (drop at own)) ≡ true → NotesReading slots id (use_of_read read) v (readings_changed (changed_at at (reading_into r.into)) k v)
  notes-moved r some there = notes-readings (changed_at at (reading_into r.into) own) (read-moves id at r own there ∙ ap (λ o. readings_with id at o own) (sym some))

  -- it comes
  pub notes-come : (r : LaneRead) → read ≡ Some r → at ≤ length own → is_some (first_read id (drop at own)) ≡ false → NotesReading slots id (use_of_read read) v (reading_added k at (reading id r.into) v)
  notes-come r some h absent = notes-readings (reading_put at (reading id r.into) own) (read-comes id at r own h (is-none (first_read id (drop at own)) absent) ∙ ap (λ o. readings_with id at o own) (sym some))
    where
      is-none : (o : Option LaneRead) → is_some o ≡ false → o ≡ None
      is-none None e = refl
      is-none (Some x) e = absurd (cc)
