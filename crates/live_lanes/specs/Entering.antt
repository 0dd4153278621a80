-- Entering instructions into rows one after the other.
use Rattle.std.specs.Prelude.{◌≡◌, ◌<◌, ℕ, suc, Bool, false, cond, ◌&&◌, nat_eq, List, [], ◌∷◌, Option, None, Some, length, map}
use Rattle.std.specs.List.{list_any}
use Rattle.mir_meaning.specs.declared.writing.LaneDef.{LaneDef}
use Rattle.live_lanes.specs.declared.row.LaneRange.{LaneRange}
use Rattle.mir_meaning.specs.Paths.{Step, has}
use Rattle.live_lanes.specs.Table.{Seen, with_reading, with_segment, read_at_end}
use Rattle.live_lanes.specs.Entered.{reading, rows_seen}

-- one after the other
abbrev pub enter_all : {X : Type 0} → (X → Seen → Seen) → List X → Seen → Seen
enter_all enter [] v = v
enter_all enter (x ∷ xs) v = enter_all enter xs (enter x v)

-- what becomes of lane l in block b, where something of a lane is entered in a block
abbrev pub at_spot : ℕ → ℕ → (Seen → Seen) → ℕ → ℕ → Seen → Seen
at_spot lane block change l b v = cond (nat_eq lane l && nat_eq block b) (change v) v

-- a lane that is read in any case
abbrev pub read_entered : ℕ → ℕ → ℕ → ℕ → ℕ → Seen → Seen
read_entered block id l b lane v = at_spot lane block (with_reading (reading id None)) l b v

-- the lane that a writing moves
abbrev pub source_entered : ℕ → ℕ → ℕ → ℕ → ℕ → Option ℕ → Seen → Seen
source_entered block id l b to None v = v
source_entered block id l b to (Some lane) v = at_spot lane block (with_reading (reading id (Some to))) l b v

abbrev pub move_entered : ℕ → ℕ → ℕ → ℕ → LaneDef → Seen → Seen
move_entered block id l b w v = source_entered block id l b w.lane w.from v

-- a lane that is written
abbrev pub write_entered : ℕ → ℕ → ℕ → ℕ → LaneDef → Seen → Seen
write_entered block id l b w v = at_spot w.lane block (with_segment id w.early w.from) l b v

-- a lane that a phi reads at the end of a block
abbrev pub last_entered : ℕ → ℕ → ℕ → ℕ → Seen → Seen
last_entered block l b lane v = at_spot lane block read_at_end l b v

-- what becomes of each lane in each block
abbrev pub Entering : Type 0
Entering = ℕ → ℕ → Seen → Seen

abbrev pub reads_entered : ℕ → ℕ → List ℕ → Entering
reads_entered block id lanes l b v = enter_all (read_entered block id l b) lanes v

abbrev pub moves_entered : ℕ → ℕ → List LaneDef → Entering
moves_entered block id ws l b v = enter_all (move_entered block id l b) ws v

abbrev pub writes_entered : ℕ → ℕ → List LaneDef → Entering
writes_entered block id ws l b v = enter_all (write_entered block id l b) ws v

abbrev pub lasts_entered : ℕ → List ℕ → Entering
lasts_entered block lanes l b v = enter_all (last_entered block l b) lanes v

-- what a phi reads at the end of the block of a number, where blocks have these positions
abbrev pub end_entered : (ℕ → Option ℕ) → ℕ → ℕ → ℕ × List ℕ → Seen → Seen
end_entered place l b r v = elim (place r.0) [ None ↦ v | Some p ↦ lasts_entered p r.1 l b v ]

abbrev pub ends_entered : (ℕ → Option ℕ) → List (ℕ × List ℕ) → Entering
ends_entered place rs l b v = enter_all (end_entered place l b) rs v

-- rows of as many lanes, after that
pub record Enters (old new : List LaneRange) (entering : Entering) : Type 0 where
  pub seen : (l b : ℕ) → l < length old → rows_seen new l b ≡ entering l b (rows_seen old l b)
  pub lanes : length new ≡ length old

-- an instruction as it is entered: what it does, and what it reads at the ends of blocks of these numbers
abbrev pub EnteredStep : Type 0
EnteredStep = Step × List (ℕ × List ℕ)

abbrev pub step_entered : (ℕ → Option ℕ) → ℕ → ℕ → ℕ → EnteredStep → Seen → Seen
step_entered place block l b e v = ends_entered place e.1 l b (writes_entered block e.0.id e.0.writes l b (moves_entered block e.0.id e.0.writes l b (reads_entered block e.0.id e.0.reads l b v)))

abbrev pub block_entered : (ℕ → Option ℕ) → ℕ → List EnteredStep → Entering
block_entered place block es l b v = enter_all (step_entered place block l b) es v

-- the blocks from a position on
abbrev pub blocks_entered : (ℕ → Option ℕ) → ℕ → List (List EnteredStep) → Entering
blocks_entered place n [] l b v = v
blocks_entered place n (es ∷ ess) l b v = blocks_entered place (suc n) ess l b (block_entered place n es l b v)

abbrev pub steps_in : List EnteredStep → List Step
steps_in es = map (λ e. e.0) es

-- the steps of the block at a position, where these are the blocks from one on
abbrev pub steps_from : ℕ → List (List EnteredStep) → ℕ → List Step
steps_from n [] b = []
steps_from n (es ∷ ess) b = cond (nat_eq n b) (steps_in es) (steps_from (suc n) ess b)

-- the lane is read there at the end of the block at a position
abbrev pub is_end_read : (ℕ → Option ℕ) → ℕ → ℕ → ℕ × List ℕ → Bool
is_end_read place l b r = elim (place r.0) [ None ↦ false | Some p ↦ has l r.1 && nat_eq p b ]

abbrev pub is_read_last : (ℕ → Option ℕ) → ℕ → ℕ → List (List EnteredStep) → Bool
is_read_last place l b ess = list_any (list_any (λ e. list_any (is_end_read place l b) e.1)) ess

-- no two steps have one id
abbrev pub AreApart : List Step → Type 0
AreApart [] = Unit {0}
AreApart (s ∷ ss) = (has s.id (map (λ x. x.id) ss) ≡ false) × AreApart ss

abbrev pub AllApart : List (List EnteredStep) → Type 0
AllApart [] = Unit {0}
AllApart (es ∷ ess) = AreApart (steps_in es) × AllApart ess
