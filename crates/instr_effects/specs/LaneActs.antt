-- What an instruction does to each lane.
use Rattle.std.specs.Prelude.{ℕ, Bool, true, cond, not, ◌&&◌, nat_eq, List, [], ◌∷◌, find, Option, Some, None}
use Rattle.std.specs.Option.{option_or}
use Rattle.std.specs.List.{list_any}
use Rattle.mir_meaning.specs.declared.writing.LaneDef.{LaneDef}
use Rattle.instr_effects.specs.declared.lane_acts.LaneAct.{LaneAct}
use Rattle.instr_effects.specs.declared.lane_acts.LaneRead.{LaneRead}
use Rattle.instr_effects.specs.declared.lane_acts.LaneWrite.{LaneWrite}

-- the first that comes of any of these
abbrev pub first_of : {X Y : Type 0} → (X → Option Y) → List X → Option Y
first_of f [] = None
first_of f (x ∷ xs) = option_or (f x) (first_of f xs)

-- the reading of a lane in any case
abbrev pub read_at : ℕ → ℕ → Option LaneRead
read_at l n = cond (nat_eq n l) (Some (record { into = None })) None

-- the move of a lane
abbrev pub move_at : ℕ → LaneDef → Option LaneRead
move_at l w = elim w.from [ None ↦ None | Some n ↦ cond (nat_eq n l) (Some (record { into = Some w.lane })) None ]

-- the writing of a lane
abbrev pub write_at : ℕ → LaneDef → Option LaneWrite
write_at l w = cond (nat_eq w.lane l) (Some (record { from = w.from; early = w.early })) None

-- a lane's reading is the first of those in any case, and then of the moves; its writing is the first
abbrev pub lane_act : List ℕ → List LaneDef → ℕ → LaneAct
lane_act rs ws l = record { lane = l; read = option_or (first_of (read_at l) rs) (first_of (move_at l) ws); write = first_of (write_at l) ws }

-- nothing is done to the lane
abbrev pub no_act : ℕ → LaneAct
no_act l = record { lane = l; read = None; write = None }

abbrev pub is_on : ℕ → LaneAct → Bool
is_on l a = nat_eq a.lane l

-- one of the acts is on the lane
abbrev pub has_act : List LaneAct → ℕ → Bool
has_act acts l = list_any (is_on l) acts

-- what one of the acts does to the lane
abbrev pub act_on : List LaneAct → ℕ → LaneAct
act_on acts l = elim (find (is_on l) acts) [ None ↦ no_act l | Some a ↦ a ]

-- no two are on one lane
abbrev pub is_once : List LaneAct → Bool
is_once [] = true
is_once (a ∷ acts) = not (has_act acts a.lane) && is_once acts

-- a reading counts where there was none
abbrev pub add_read : LaneAct → Option LaneRead → LaneAct
add_read a r = record { lane = a.lane; read = option_or a.read r; write = a.write }

-- a writing counts where there was none
abbrev pub add_write : LaneAct → Option LaneWrite → LaneAct
add_write a w = record { lane = a.lane; read = a.read; write = option_or a.write w }
