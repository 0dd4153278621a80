-- What leads to a piece: the pieces that have a reason to be live which rests on it, as a table tells them.
use Rattle.std.specs.Prelude.{◌≡◌, ℕ, List, Some, length}
use Rattle.mir_meaning.specs.Paths.{Among, Code}
use Rattle.live_lanes.specs.declared.compute.flow.BlockFlow.{BlockFlow}
use Rattle.live_lanes.specs.declared.row.Cause.{Cause}
use Rattle.live_lanes.specs.declared.row.Cause.TheVariants as causes
use Rattle.live_lanes.specs.declared.row.LaneRange.{LaneRange}
use Rattle.live_lanes.specs.Graph.{Causes}
use Rattle.live_lanes.specs.Ways.{predecessors, terminators}
use Rattle.live_lanes.specs.Table.{Numbers, entry_rank, exit_rank, readings_in, moved_in}
use Rattle.live_lanes.specs.Entered.{reading, rows_seen, IsTableOf}
use Rattle.live_lanes.specs.Growth.{piece_in_rows}
use Rattle.edit_laws.specs.Chains.{Node}
use Rattle.edit_laws.specs.Reasons.{ReasonFor, cause_of}
use Rattle.edit_laws.specs.Update.{Request, LeadTo}

-- As the table tells it, these lead to a piece that begins with its block: its lane at the ends of the blocks before and at the exits
-- of their terminators; to one that a move begins: the lane that is moved, unless the instruction reads it in any case.
pub data IsNeed (slots : Numbers) (flow : List BlockFlow) (rows : List LaneRange) : Node → Request → Type 0 where
  need_end : {l b x : ℕ} → Among b (predecessors flow x) → IsNeed slots flow rows (l, x, 0) (record { node = (l, b, length (rows_seen rows l b).segments); cause = causes.Follower x })
  need_exit : {l b x id : ℕ} → Among b (predecessors flow x) → Among id (terminators flow b) → IsNeed slots flow rows (l, x, 0) (record { node = (l, b, piece_in_rows slots rows l b (exit_rank slots id)); cause = causes.Follower x })
  need_move : {l b n a id : ℕ} → moved_in (rows_seen rows l b) n ≡ Some (id, a) → Among (reading id (Some l)) (readings_in (rows_seen rows a b) (piece_in_rows slots rows a b (entry_rank slots id))) → IsNeed slots flow rows (l, b, n) (record { node = (a, b, piece_in_rows slots rows a b (entry_rank slots id)); cause = causes.Reading id })

-- each of these has a reason which rests on the piece, and these are all such reasons
pub record AreNeeds (code : Code) (m : Node) (queue : List Request) : Type 0 where
  pub reasons : (r : Request) → Among r queue → ReasonFor code r.node r.cause (Some m)
  pub whole : (n : Node) (c : Cause) → ReasonFor code n c (Some m) → (r : Request) × Among r queue × (r.node ≡ n) × (r.cause ≡ c)

-- what leads to a piece as the table tells it is what does
abbrev pub NeedsLaw : Type 0
NeedsLaw =
    (code : Code) (slots : Numbers) (flow : List BlockFlow) (rows : List LaneRange) → IsTableOf code slots flow rows
    → (m : Node) (queue : List Request) → ((r : Request) → Among r queue → IsNeed slots flow rows m r) → ((r : Request) → IsNeed slots flow rows m r → Among r queue) → AreNeeds code m queue

-- Then it may be asked for where the piece came alive. Where the piece fell, nothing is live for its sake once none of these has
-- its cause.
pub record NeedsServe (code : Code) (m : Node) (queue : List Request) : Type 0 where
  pub lead : LeadTo code m queue
  pub told : (why : Causes) → ((r : Request) → Among r queue → cause_of why r.node ≡ r.cause → ⊥) → (n : Node) → ReasonFor code n (cause_of why n) (Some m) → ⊥

abbrev pub NeedsServeLaw : Type 0
NeedsServeLaw = (code : Code) (m : Node) (queue : List Request) → AreNeeds code m queue → NeedsServe code m queue
