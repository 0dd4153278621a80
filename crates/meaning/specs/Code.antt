-- A function as one list of items in layout order, and its runs.
use Rattle.std.specs.Prelude.{ℕ, zero, suc, Bool, true, cond, ◌&&◌, nat_eq, List, [], ◌∷◌, ◌++◌, Option, Some, None}
use Rattle.meaning.specs.declared.types.Lane.TheVariants.{VirtualLane, UnitLane, SlotLane}
use Rattle.meaning.specs.Lanes.{Writes, Reads}
use Rattle.meaning.specs.Environment.{Environment, entry_value}
use Rattle.meaning.specs.State.{State, written, values}
use Rattle.meaning.specs.Perform.{Event, End, Undefined, Steps, Outside, Control, Next, Taken, Stop, Performed, Rest, perform}

-- a way into a block: its number, and what its phis write, all at once, when it is entered this way
pub record Edge : Type 0 where
  pub block : ℕ
  pub phis : Writes

pub data Item : Type 0 where
  -- the start of block n, behind its phis
  BlockStart : (n : ℕ) → Item
  -- the end of a block: what the phis write of the block that it falls into, if it does, and the ways out
  BlockEnd : (falls : Option Writes) (exits : List Edge) → Item
  -- a silent instruction: what it reads whether or not the lanes that it fills are live, and what it writes
  Silent : (reads : Reads) (writes : Writes) → Item
  -- a counted instruction; its branch target; where paths lead from its exit beside the next instruction
  Counted : (rest : Rest) (reads : Reads) (writes : Writes) (target : Option Edge) (exits : List Edge) → Item

abbrev pub Code : Type 0
Code = List Item

-- the place after the start of block n
abbrev pub found : ℕ → Code → Code
found n [] = []
found n (BlockStart m ∷ p) = cond (nat_eq m n) p (found n p)
found n (BlockEnd falls exits ∷ p) = found n p
found n (Silent reads ws ∷ p) = found n p
found n (Counted r reads ws target exits ∷ p) = found n p

abbrev pub target_place : Code → Option Edge → Code
target_place code None = []
target_place code (Some e) = found e.block code

-- the state behind the phis
abbrev pub entered : Environment → Option Edge → State → State
entered env None state = state
entered env (Some e) state = written env [] e.phis state

pub record Run : Type 0 where
  pub events : List Event
  pub end : End
  -- no division read a divisor with an Undef lane
  pub divisors_defined : Bool

abbrev pub ended : End → Run
ended e = record { events = []; end = e; divisors_defined = true }

-- what an instruction did, and what comes after it
abbrev pub extended : Performed → Run → Run
extended did run = record { events = did.events ++ run.events; end = run.end; divisors_defined = did.divisor_defined && run.divisors_defined }

abbrev pub continued : Control → Run → Run → Run
continued Next next taken = next
continued Taken next taken = taken
continued (Stop e) next taken = ended e

abbrev pub Goes : Type 0
Goes = Code → State → Outside → Run

-- on to the next counted instruction, which is done, and then as `next` says
abbrev pub walk : Environment → Code → Goes → Goes
walk env code next [] state o = ended Undefined
walk env code next (BlockStart n ∷ p) state o = walk env code next p state o
walk env code next (BlockEnd (Some phis) exits ∷ p) state o = walk env code next p (written env [] phis state) o
walk env code next (BlockEnd None exits ∷ p) state o = ended Undefined
walk env code next (Silent reads ws ∷ p) state o = walk env code next p (written env [] ws state) o
walk env code next (Counted r reads ws target exits ∷ p) state o =
    let did = perform r env o (values env state reads) in
    let after = written env did.results ws state in
    extended did (continued did.control (next p after did.outside) (next (target_place code target) (entered env target after) did.outside))

-- through n counted instructions
abbrev pub runs : Environment → Code → ℕ → Goes
runs env code zero p state o = ended Steps
runs env code (suc n) p state o = walk env code (runs env code n) p state o

-- the units that a function is given, with their widths; all else is Undef
abbrev pub Given : Type 0
Given = ℕ → Option ℕ

abbrev pub entry_lane : Environment → ℕ → Option ℕ → Option ℕ
entry_lane env u None = None
entry_lane env u (Some width) = entry_value env width u

abbrev pub start_state : Environment → Given → State
start_state env given (VirtualLane v k) = None
start_state env given (UnitLane u) = entry_lane env u (given u)
start_state env given (SlotLane s k width) = None

pub record Function : Type 0 where
  pub code : Code
  -- the units of the entry block's live-ins, and the reserved ones
  pub given : Given

abbrev pub run : Function → Environment → ℕ → Run
run f env n = runs env f.code n f.code (start_state env f.given) (record { bytes = []; calls = 0 })
