-- What instructions do to one lane, from which its cell in a block is made anew.
use Rattle.std.specs.Prelude.{◌≡◌, ◌⊎◌, ◌↔◌, ◌<◌, ◌||◌, ℕ, Bool, true, false, cond, nat_eq, List, [], ◌∷◌, ◌++◌, Option, None, Some, map, filter}
use Rattle.slot_index.specs.Order.{number_of}
use Rattle.mir_meaning.specs.declared.writing.LaneDef.{LaneDef}
use Rattle.mir_meaning.specs.Paths.{Among, Step, Code, steps_of, Use, Unused, Certain, Into, use_of, writing_of, is_present}
use Rattle.live_lanes.specs.declared.compute.flow.BlockFlow.{BlockFlow}
use Rattle.live_lanes.specs.declared.row.LaneRange.{LaneRange}
use Rattle.live_lanes.specs.declared.row.LaneUse.{LaneUse}
use Rattle.live_lanes.specs.Table.{Numbers, Seen, unseen}
use Rattle.live_lanes.specs.Entered.{Start, start_of, rows_seen, IsNumbered, IsTableOf}
use Rattle.live_lanes.specs.Entering.{enter_all}
use Rattle.edit_laws.specs.Reasons.{Touched, IsEditOf}
use Rattle.edit_laws.specs.Rebuilt.{lane_used, lane_written, rebuilt, copied, IsRebuilt}

-- what an instruction does to a lane
pub record LaneStep : Type 0 where
  pub id : ℕ
  pub used : Use
  pub writing : Option LaneDef

abbrev pub lane_step : ℕ → Step → LaneStep
lane_step l s = record { id = s.id; used = use_of l s; writing = writing_of l s.writes }

abbrev pub is_used : Use → Bool
is_used Unused = false
is_used Certain = true
is_used (Into a) = true

-- it does anything
abbrev pub does_any : LaneStep → Bool
does_any a = is_used a.used || is_present a.writing

-- what those do that do anything, in their order
abbrev pub lane_steps : ℕ → List Step → List LaneStep
lane_steps l ss = filter does_any (map (lane_step l) ss)

abbrev pub one_entered : LaneStep → Seen → Seen
one_entered a v = lane_written a.id a.writing (lane_used a.id a.used v)

-- A cell is made anew from these alone.
abbrev pub LaneStepsLaw : Type 0
LaneStepsLaw = (l : ℕ) (ss : List Step) → rebuilt l ss ≡ enter_all one_entered (lane_steps l ss) unseen

-- their numbers rise
abbrev pub StepsRise : Numbers → List LaneStep → Type 0
StepsRise slots [] = Unit {0}
StepsRise slots (a ∷ xs) = ((c : LaneStep) → Among c xs → number_of slots a.id < number_of slots c.id) × StepsRise slots xs

-- notes: what the touched instructions of a block do to the lane after edits
pub record AreNotes (touched : Touched) (new : Code) (l b : ℕ) (notes : List LaneStep) : Type 0 where
  pub noted : (s : Step) → Among s (steps_of new b) → touched l b s.id ≡ true → does_any (lane_step l s) ≡ true → Among (lane_step l s) notes
  pub stands : (a : LaneStep) → Among a notes → (s : Step) × Among s (steps_of new b) × (lane_step l s ≡ a) × (does_any a ≡ true)

-- what instructions that aren't touched did before, and the notes, in the order of the new code
pub record AreMerged (touched : Touched) (l b : ℕ) (slots : Numbers) (before notes xs : List LaneStep) : Type 0 where
  pub rise : StepsRise slots xs
  pub members : (a : LaneStep) → Among a xs ↔ ((Among a before × (touched l b a.id ≡ false)) ⊎ Among a notes)

-- These are what the instructions of the new code do to the lane.
abbrev pub MergedLaw : Type 0
MergedLaw =
    (touched : Touched) (old new : Code) (l b : ℕ) (slots : Numbers) (notes xs : List LaneStep) → IsEditOf touched old new → IsNumbered new slots
    → AreNotes touched new l b notes → AreMerged touched l b slots (lane_steps l (steps_of old b)) notes xs → xs ≡ lane_steps l (steps_of new b)

-- what a cell tells of instructions: a reading, and a writing that begins a piece
abbrev pub use_told : Option ℕ → Use
use_told None = Certain
use_told (Some a) = Into a

abbrev pub reading_told : LaneUse → LaneStep
reading_told r = record { id = r.id; used = use_told r.into; writing = None }

abbrev pub writing_told : ℕ → Use → Start → LaneStep
writing_told l u s = record { id = s.start; used = u; writing = Some (record { lane = l; from = s.from; early = s.early }) }

-- the last reading of a piece may be of the instruction that begins the next
abbrev pub begun_told : ℕ → List LaneUse → Start → List LaneStep
begun_told l [] s = writing_told l Unused s ∷ []
begun_told l (r ∷ []) s = cond (nat_eq r.id s.start) (writing_told l (use_told r.into) s ∷ []) (reading_told r ∷ writing_told l Unused s ∷ [])
begun_told l (r ∷ q ∷ rs) s = reading_told r ∷ begun_told l (q ∷ rs) s

-- all pieces, one after the other
abbrev pub steps_told : ℕ → List LaneUse → List Start → List LaneStep
steps_told l rs [] = map reading_told rs
steps_told l rs (s ∷ ss) = begun_told l rs s ++ steps_told l s.readings ss

-- A table tells of each lane in each block what the instructions do to it.
abbrev pub ToldLaw : Type 0
ToldLaw =
    (code : Code) (slots : Numbers) (flow : List BlockFlow) (rows : List LaneRange) → IsTableOf code slots flow rows
    → (l b : ℕ) → steps_told l (rows_seen rows l b).readings (map start_of (rows_seen rows l b).segments) ≡ lane_steps l (steps_of code b)

-- A cell into which these are entered one after the other, as the cell of before and the notes tell them, and which takes causes and
-- ends from the cell of before, is made anew.
abbrev pub RemadeLaw : Type 0
RemadeLaw =
    (touched : Touched) (old new : Code) (slots slots' : Numbers) (flow : List BlockFlow) (x : List LaneRange) (l b : ℕ) (notes xs : List LaneStep) (now : Seen) → IsTableOf old slots flow x → IsEditOf touched old new → IsNumbered new slots'
    → AreNotes touched new l b notes → AreMerged touched l b slots' (steps_told l (rows_seen x l b).readings (map start_of (rows_seen x l b).segments)) notes xs
    → now ≡ copied (rows_seen x l b) (enter_all one_entered xs unseen) → IsRebuilt old new l b (rows_seen x l b) now
