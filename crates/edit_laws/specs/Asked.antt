-- Which reasons for a piece to be live count, as a table tells them.
use Rattle.std.specs.Prelude.{◌≡◌, ℕ, true, false, List, None, Some, length}
use Rattle.mir_meaning.specs.Paths.{Among, Code}
use Rattle.live_lanes.specs.declared.compute.flow.BlockFlow.{BlockFlow}
use Rattle.live_lanes.specs.declared.row.Cause.{Cause}
use Rattle.live_lanes.specs.declared.row.Cause.TheVariants as reasons
use Rattle.live_lanes.specs.declared.row.LaneRange.{LaneRange}
use Rattle.live_lanes.specs.Graph.{is_live}
use Rattle.live_lanes.specs.Ways.{successors, terminators}
use Rattle.live_lanes.specs.Table.{Numbers, exit_rank, readings_in}
use Rattle.live_lanes.specs.Entered.{reading, rows_seen, causes, IsTableOf}
use Rattle.live_lanes.specs.Growth.{piece_in_rows}
use Rattle.live_lanes.specs.Lasting.{AreOutward}
use Rattle.edit_laws.specs.Chains.{Node, cause_at}
use Rattle.edit_laws.specs.Update.{Request, Wanted, Asks}

-- A reason that counts, as the table tells it: a phi reads the lane at the block's end; an instruction reads it in any case, or moves
-- it to where it is live behind the instruction; a path leads from the piece to a block that follows, at whose start the lane is live.
pub data IsFound (slots : Numbers) (flow : List BlockFlow) (rows : List LaneRange) : Node → Cause → Type 0 where
  found_phi : {l b : ℕ} → (rows_seen rows l b).is_read_last ≡ true → IsFound slots flow rows (l, b, length (rows_seen rows l b).segments) reasons.Phi
  found_reading : {l b n id : ℕ} → Among (reading id None) (readings_in (rows_seen rows l b) n) → IsFound slots flow rows (l, b, n) (reasons.Reading id)
  found_move : {l b n a id : ℕ} → Among (reading id (Some a)) (readings_in (rows_seen rows l b) n) → is_live (causes rows a b (piece_in_rows slots rows a b (exit_rank slots id))) ≡ true → IsFound slots flow rows (l, b, n) (reasons.Reading id)
  found_exit : {l b x id : ℕ} → Among id (terminators flow b) → Among x (successors flow b) → is_live (causes rows l x 0) ≡ true → IsFound slots flow rows (l, b, piece_in_rows slots rows l b (exit_rank slots id)) (reasons.Follower x)
  found_end : {l b x : ℕ} → Among x (successors flow b) → is_live (causes rows l x 0) ≡ true → IsFound slots flow rows (l, b, length (rows_seen rows l b).segments) (reasons.Follower x)

-- What is asked for of some pieces: those that aren't live and of which such a reason is found, each with one.
abbrev pub AsksLaw : Type 0
AsksLaw =
    (code : Code) (slots : Numbers) (flow : List BlockFlow) (rows : List LaneRange) → IsTableOf code slots flow rows → AreOutward code slots flow
    → (asked : List Node) (queue : List Request) → ((r : Request) → Among r queue → Among r.node asked × IsFound slots flow rows r.node r.cause)
    → ((n : Node) → Among n asked → cause_at (causes rows) n ≡ false → (c : Cause) → IsFound slots flow rows n c → Wanted n queue) → Asks code (causes rows) asked queue
