-- A run by what was shown so far and what is left of it.
use Rattle.std.specs.Prelude.{◌≡◌, ℕ, List, [], ◌∷◌, ◌++◌, ◌&&◌, map, cond, drop, Option, Some, None, Result, Ok, Err, Bool, true, false}
use Rattle.target_base.specs.declared.types.Unit.{Unit as UnitNumber}
use Rattle.target_base.specs.declared.types.UnitDesc.{UnitDesc}
use Rattle.target_base.specs.Numbers.{unit_number}
use Rattle.target_base.specs.Storage.{is_among, unit_width}
use Rattle.meaning.specs.declared.types.Lane.TheVariants.{VirtualLane, UnitLane, SlotLane}
use Rattle.meaning.specs.Lanes.{Writes, same_lane}
use Rattle.meaning.specs.declared.types.Fill.{Fill}
use Rattle.meaning.specs.declared.types.Fill.TheVariants.{Moved, Computed}
use Rattle.meaning.specs.declared.types.Source.TheVariants.{FromLane, Undef, Bits}
use Rattle.meaning.specs.Environment.{Environment, Value, entry_value}
use Rattle.meaning.specs.State.{State, fill}
use Rattle.meaning.specs.Perform.{Outside, Undefined}
use Rattle.meaning.specs.Code.{Code, Item, Goes, Run, walk, ended}
use Rattle.mir_interp.specs.declared.types.Event.{Event}
use Rattle.mir_interp.specs.declared.types.End.{End}
use Rattle.mir_interp.specs.declared.machine.SilentResult.{SilentResult}
use Rattle.mir_interp.specs.declared.machine.SilentResult.TheVariants as passes
use Rattle.mir_interp.specs.declared.machine.Machine.{Machine}
use Rattle.mir_interp.specs.Holds.{held_by, updated}
use Rattle.mir_interp.specs.Remembers.{Remembers}
use Rattle.mir_interp.specs.Stands.{event_of, end_of}

-- where these events stood, the whole run was to come; now those stand, and the rest of it is to come
pub record Continues (old : List Event) (whole : Run) (new : List Event) (rest : Run) : Type 0 where
  pub events : map event_of old ++ whole.events ≡ map event_of new ++ rest.events
  pub end : whole.end ≡ rest.end

-- the lanes after writes with these values; of two writes of one lane the first counts
abbrev pub put_in : Writes → List Value → State → State
put_in [] vs state l = state l
put_in (w ∷ ws) [] state l = state l
put_in (w ∷ ws) (v ∷ vs) state l = cond (same_lane w.lane l) v (put_in ws vs state l)

-- the lanes after these units were given what they hold at the start
abbrev pub given_units : Environment → List UnitDesc → List UnitNumber → State → State
given_units env units us state (VirtualLane v k) = state (VirtualLane v k)
given_units env units us state (UnitLane u) = cond (is_among us (unit_number u)) (entry_value env (unit_width units (unit_number u)) u) (state (UnitLane u))
given_units env units us state (SlotLane s k w) = state (SlotLane s k w)

-- the run from the next counted instruction of a code, if there is one
abbrev pub gone_on : Environment → Code → Goes → Code → Option ℕ → State → Outside → Run
gone_on env code next p None state o = ended Undefined
gone_on env code next p (Some k) state o = walk env code next (drop k p) state o

-- a fill that gives the same whatever lanes hold
abbrev pub reads_no_lane : Fill → Bool
reads_no_lane (Moved (FromLane l)) = false
reads_no_lane (Moved Undef) = true
reads_no_lane (Moved (Bits c low width)) = true
reads_no_lane (Computed i) = true

abbrev pub read_no_lane : Writes → Bool
read_no_lane [] = true
read_no_lane (w ∷ ws) = reads_no_lane w.fill && read_no_lane ws

-- the lanes after the writes were made one after another, from the last on
abbrev pub put_in_turn : Environment → List Value → Writes → State → State
put_in_turn env results [] state = state
put_in_turn env results (w ∷ ws) state = updated (put_in_turn env results ws state) w.lane (fill env results (put_in_turn env results ws state) w.fill)

-- the run from an item that was passed, or wasn't, before p
abbrev pub passed_on : Environment → Code → Goes → Item → Code → SilentResult → State → Outside → Run
passed_on env code next i p passes.On state o = walk env code next p state o
passed_on env code next i p passes.Stuck state o = ended Undefined
passed_on env code next i p passes.Counted state o = walk env code next (i ∷ p) state o

-- the run from the place to go on at, if it hasn't ended
abbrev pub onward : Code → Goes → Result ℕ End → State → Outside → Run
onward code next (Ok at) state o = next (drop at code) state o
onward code next (Err e) state o = ended (end_of e)

-- the instruction at a place was done: what lies outside now, and what is left of the run
pub record Stepped (env : Environment) (code : Code) (next : Goes) (at : ℕ) (old : Machine) (r : Result ℕ End) (new : Machine) (o : Outside) : Type 0 where
  pub outside : Outside
  pub remembers : Remembers env new.outside outside
  pub continues : Continues old.events (walk env code next (drop at code) (held_by old.store) o) new.events (onward code next r (held_by new.store) outside)
