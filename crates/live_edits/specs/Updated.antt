-- What the parts of an update do: pieces fall, have reasons, come alive and get their ends anew.
use Rattle.std.specs.Prelude.{◌≡◌, ◌⊎◌, ℕ, Bool, true, false, List, [], ◌∷◌, ◌++◌, Some, length}
use Rattle.mir_meaning.specs.Paths.{Among, Code, has}
use Rattle.live_lanes.specs.declared.compute.flow.BlockFlow.{BlockFlow}
use Rattle.live_lanes.specs.declared.row.Cause.{Cause}
use Rattle.live_lanes.specs.declared.row.LaneRange.{LaneRange}
use Rattle.live_edits.specs.declared.pieces.PieceSpot.{PieceSpot}
use Rattle.live_lanes.specs.Graph.{Causes, is_live}
use Rattle.live_lanes.specs.Table.{Numbers, Seen, exit_rank, piece_at, certain_cause}
use Rattle.live_lanes.specs.Entered.{shape, rows_seen, causes, IsTableOf}
use Rattle.live_lanes.specs.Ends.{row_end}
use Rattle.live_lanes.specs.Ways.{terminators}
use Rattle.live_lanes.specs.Lasting.{shapes, right_end, AreOutward}
use Rattle.edit_laws.specs.Asked.{IsFound}
use Rattle.edit_laws.specs.Chains.{Node, cause_at}
use Rattle.edit_laws.specs.Needs.{IsNeed}
use Rattle.edit_laws.specs.Reasons.{ReasonFor, Touched}
use Rattle.edit_laws.specs.Rechecked.{IsHeld}
use Rattle.edit_laws.specs.RowCause.{GivesCause}
use Rattle.edit_laws.specs.Update.{Falls, falling, Holds, Request, Wanted, Asks, Rises, rising}
use Rattle.live_edits.specs.declared.pieces.Need.{Need}
use Rattle.live_edits.specs.Pieces.{node_of, nodes_of, requests_of, IsThere, AreThere}

-- all touched instructions are among these
abbrev pub AreTold : Touched → List ℕ → Type 0
AreTold touched ids = (l b id : ℕ) → touched l b id ≡ true → has id ids ≡ true

-- Rows of the code after edits, in which causes of before hold that look as if they did; the pieces that are listed are there.
pub record IsCarriedOver (touched : Touched) (code : Code) (slots : Numbers) (flow : List BlockFlow) (rows : List LaneRange) (list : List Node) : Type 0 where
  pub table : IsTableOf code slots flow rows
  pub outward : AreOutward code slots flow
  pub held : (l b n : ℕ) → IsHeld touched slots flow rows l b n → Holds touched code (causes rows) l b n
  pub there : (n : Node) → Among n list → IsThere rows n

-- the listed pieces are looked at again; those that fell are answered
abbrev pub LooksAgain : List ℕ → Numbers → List BlockFlow → List LaneRange → List LaneRange → List PieceSpot → List PieceSpot → Type 0
LooksAgain ids slots flow old new list fallen =
    (touched : Touched) (code : Code) → AreTold touched ids → IsCarriedOver touched code slots flow old (nodes_of list)
    → Falls touched code (falling (causes old) (nodes_of list) [] (nodes_of list)) (falling (causes new) [] (nodes_of fallen) (nodes_of list ++ nodes_of fallen))

-- a piece of a cell lasts up to the end of the block, or up to the exit of a terminator in it
abbrev pub LeadsOut : Numbers → List BlockFlow → Seen → ℕ → ℕ → Type 0
LeadsOut slots flow v block index = (length v.segments ≡ index) ⊎ ((id : ℕ) × Among id (terminators flow block) × (piece_at slots (exit_rank slots id) v.segments ≡ index))

-- a piece of the rows does
abbrev pub LastsToExit : Numbers → List BlockFlow → List LaneRange → Node → Type 0
LastsToExit slots flow rows n = LeadsOut slots flow (rows_seen rows n.0 n.1) n.1 n.2

-- why a piece is live without any other lane
abbrev pub certain_at : List LaneRange → Node → Cause
certain_at rows n = certain_cause (rows_seen rows n.0 n.1) n.2

-- a piece that is there takes the cause that needs no other lane, or none; all else stays
abbrev pub LosesCause : List LaneRange → List LaneRange → PieceSpot → Type 0
LosesCause old new spot = IsThere old (node_of spot) → GivesCause old new (node_of spot) (certain_at old (node_of spot))

abbrev pub unless_live : Bool → PieceSpot → List PieceSpot
unless_live true spot = []
unless_live false spot = spot ∷ []

-- the piece is listed among the fallen, unless it has such a cause
abbrev pub ListsFallen : List LaneRange → PieceSpot → List PieceSpot → List PieceSpot → Type 0
ListsFallen rows spot from to = to ≡ from ++ unless_live (is_live (certain_at rows (node_of spot))) spot

-- Nothing is live any more for the sake of fallen pieces: more fell. Around are all that have a reason which rests on one that fell.
pub record LetsFall (slots : Numbers) (flow : List BlockFlow) (old new : List LaneRange) (first fallen around around' : List PieceSpot) : Type 0 where
  pub more : List PieceSpot
  pub list : fallen ≡ first ++ more
  pub falls : (touched : Touched) (code : Code) (asked : List Node) → IsTableOf code slots flow old → Falls touched code (falling (causes old) [] (nodes_of first) asked) (falling (causes new) [] [] (asked ++ nodes_of more))
  pub kept : (n : Node) → Among n (nodes_of around) → Among n (nodes_of around')
  pub beside : (code : Code) → IsTableOf code slots flow old → (m : Node) → Among m (nodes_of fallen) → (n : Node) (c : Cause) → ReasonFor code n c (Some m) → Among n (nodes_of around')

-- exactly what leads to a piece, as the table tells it
pub record AreNeedsOf (slots : Numbers) (flow : List BlockFlow) (rows : List LaneRange) (m : Node) (needs : List Need) : Type 0 where
  pub each : (r : Request) → Among r (requests_of needs) → IsNeed slots flow rows m r
  pub whole : (r : Request) → IsNeed slots flow rows m r → Among r (requests_of needs)

-- those of some pieces that aren't live and have a reason that counts are asked for, each with one
pub record AsksFor (slots : Numbers) (flow : List BlockFlow) (rows : List LaneRange) (asked : List PieceSpot) (from to : List Need) : Type 0 where
  pub added : List Need
  pub list : to ≡ from ++ added
  pub each : (r : Request) → Among r (requests_of added) → Among r.node (nodes_of asked) × IsFound slots flow rows r.node r.cause
  pub whole : (n : Node) → Among n (nodes_of asked) → cause_at (causes rows) n ≡ false → (c : Cause) → IsFound slots flow rows n c → Wanted n (requests_of added)

-- What is asked for comes alive where it isn't live, and is listed then; what is live is around.
pub record Raises (old new : List LaneRange) (queue : List Need) (from to around around' : List PieceSpot) : Type 0 where
  pub added : List PieceSpot
  pub list : to ≡ from ++ added
  pub rises : (code : Code) (ms cs : List Node) → AreThere old queue → Rises code (rising (causes old) (requests_of queue) ms cs) (rising (causes new) [] (ms ++ nodes_of added) (cs ++ nodes_of added))
  pub kept : (n : Node) → Among n (nodes_of around) → Among n (nodes_of around')
  pub beside : (r : Request) → Among r (requests_of queue) → Among r.node (nodes_of added) ⊎ Among r.node (nodes_of around')
  pub wanted : (n : Node) → Among n (nodes_of added) → Wanted n (requests_of queue)

-- What is asked for comes alive, and all that leads to it. Around are all that have a reason which rests on one that came alive.
pub record Revives (slots : Numbers) (flow : List BlockFlow) (old new : List LaneRange) (queue : List Need) (risen around around' : List PieceSpot) : Type 0 where
  pub rises : (code : Code) (asked : List Node) → IsTableOf code slots flow old → AreThere old queue → Rises code (rising (causes old) (requests_of queue) [] asked) (rising (causes new) [] [] (asked ++ nodes_of risen))
  pub kept : (n : Node) → Among n (nodes_of around) → Among n (nodes_of around')
  pub beside : (code : Code) → IsTableOf code slots flow old → AreThere old queue → (m : Node) → Among m (nodes_of risen) → (n : Node) (c : Cause) → ReasonFor code n c (Some m) → Among n (nodes_of risen) ⊎ Among n (nodes_of around')

-- these pieces get their ends anew, and nothing else changes
pub record EndsAgain (slots : Numbers) (flow : List BlockFlow) (old new : List LaneRange) (again : List Node) : Type 0 where
  pub shapes_stay : (l b : ℕ) → shape (rows_seen new l b) ≡ shape (rows_seen old l b)
  pub causes_stay : (l b n : ℕ) → causes new l b n ≡ causes old l b n
  pub ended : (n : Node) → Among n again → row_end new n.0 n.1 n.2 ≡ right_end slots flow (causes old) (shapes old) n.0 n.1 n.2
  pub kept : (n : Node) → (Among n again → ⊥) → row_end new n.0 n.1 n.2 ≡ row_end old n.0 n.1 n.2

-- From rows of before on: what fell and came alive, and the ends that are right again.
pub record AreUpdated (touched : Touched) (code : Code) (slots : Numbers) (flow : List BlockFlow) (old new : List LaneRange) (list : List Node) : Type 0 where
  pub shapes_stay : (l b : ℕ) → shape (rows_seen new l b) ≡ shape (rows_seen old l b)
  pub between : Causes
  pub fallen : List Node
  pub falls : Falls touched code (falling (causes old) list [] list) (falling between [] [] (list ++ fallen))
  pub queue : List Request
  pub asks : Asks code between (list ++ fallen) queue
  pub risen : List Node
  pub rises : Rises code (rising between queue [] (list ++ fallen)) (rising (causes new) [] [] ((list ++ fallen) ++ risen))
  pub again : List Node
  pub with_list : (n : Node) → Among n list → Among n again
  pub with_needs : (m : Node) → Among m (fallen ++ risen) → (n : Node) (c : Cause) → ReasonFor code n c (Some m) → Among n again
  pub ended : (n : Node) → Among n again → row_end new n.0 n.1 n.2 ≡ right_end slots flow (causes new) (shapes new) n.0 n.1 n.2
  pub kept : (n : Node) → (Among n again → ⊥) → row_end new n.0 n.1 n.2 ≡ row_end old n.0 n.1 n.2

abbrev pub Updates : List ℕ → Numbers → List BlockFlow → List LaneRange → List LaneRange → List PieceSpot → Type 0
Updates ids slots flow old new list =
    (touched : Touched) (code : Code) → AreTold touched ids → IsCarriedOver touched code slots flow old (nodes_of list)
    → AreUpdated touched code slots flow old new (nodes_of list)
