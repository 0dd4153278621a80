-- What leads to a piece, as a list, and by which readings a lane is moved to where it is live.
use Rattle.std.specs.Prelude.{◌↔◌, ℕ, zero, suc, Bool, false, cond, ◌&&◌, nat_eq, List, [], ◌∷◌, Option, None, Some, map, length}
use Rattle.std.specs.List.{list_any, flat_map}
use Rattle.mir_meaning.specs.Paths.{Among, is_some_number}
use Rattle.live_lanes.specs.declared.compute.flow.BlockFlow.{BlockFlow}
use Rattle.live_lanes.specs.declared.row.Cause.TheVariants as causes
use Rattle.live_lanes.specs.declared.row.LaneRange.{LaneRange}
use Rattle.live_lanes.specs.declared.row.LaneUse.{LaneUse}
use Rattle.live_lanes.specs.Graph.{is_live}
use Rattle.live_lanes.specs.Ways.{predecessors, terminators}
use Rattle.live_lanes.specs.Table.{Numbers, Seen, entry_rank, exit_rank, piece_at, readings_in, moved_in}
use Rattle.live_lanes.specs.Entered.{rows_seen}
use Rattle.live_lanes.specs.Entered.{causes as why_of}
use Rattle.live_lanes.specs.Growth.{piece_in_rows}
use Rattle.edit_laws.specs.Update.{Request}

-- both lists have the same elements, in whatever order and however often
abbrev pub AreAlike : {X : Type 0} → List X → List X → Type 0
AreAlike {X} xs ys = (x : X) → Among x xs ↔ Among x ys

-- the last piece of a lane in block b, from which paths lead to block x
abbrev pub end_need : List LaneRange → ℕ → ℕ → ℕ → Request
end_need rows l x b = record { node = (l, b, length (rows_seen rows l b).segments); cause = causes.Follower x }

-- the piece at the exit of a terminator there
abbrev pub exit_need : Numbers → List LaneRange → ℕ → ℕ → ℕ → ℕ → Request
exit_need slots rows l x b id = record { node = (l, b, piece_in_rows slots rows l b (exit_rank slots id)); cause = causes.Follower x }

-- the same in the cell of a piece that leads there
abbrev pub exit_beside : Numbers → Seen → Request → ℕ → Request
exit_beside slots v r id = record { node = (r.node.0, r.node.1, piece_at slots (exit_rank slots id) v.segments); cause = r.cause }

-- both, of terminators with these ids
abbrev pub exit_needs : Numbers → List LaneRange → ℕ → ℕ → ℕ → List ℕ → List Request
exit_needs slots rows l x b ids = end_need rows l x b ∷ map (exit_need slots rows l x b) ids

-- those of all blocks before block x
abbrev pub needs_before : Numbers → List BlockFlow → List LaneRange → ℕ → ℕ → List Request
needs_before slots flow rows l x = flat_map (λ b. exit_needs slots rows l x b (terminators flow b)) (predecessors flow x)

-- the instruction reads it to move it into the lane
abbrev pub is_move : ℕ → ℕ → LaneUse → Bool
is_move id l r = nat_eq r.id id && is_some_number l r.into

-- the piece that the entry of an instruction lies in
abbrev pub move_need : Numbers → List LaneRange → ℕ → ℕ → ℕ → Request
move_need slots rows b id a = record { node = (a, b, piece_in_rows slots rows a b (entry_rank slots id)); cause = causes.Reading id }

-- the instruction moves lane a into lane l, unless it reads it in any case
abbrev pub move_needs : Numbers → List LaneRange → ℕ → ℕ → Option (ℕ × ℕ) → List Request
move_needs slots rows l b None = []
move_needs slots rows l b (Some m) =
    cond (list_any (is_move m.0 l) (readings_in (rows_seen rows m.1 b) (piece_in_rows slots rows m.1 b (entry_rank slots m.0)))) (move_need slots rows b m.0 m.1 ∷ []) []

-- all that leads to a piece
abbrev pub needs_of : Numbers → List BlockFlow → List LaneRange → ℕ → ℕ → ℕ → List Request
needs_of slots flow rows l b zero = needs_before slots flow rows l b
needs_of slots flow rows l b (suc k) = move_needs slots rows l b (moved_in (rows_seen rows l b) (suc k))

-- the reading moves its lane to where it is live behind the instruction
abbrev pub moves_on : Numbers → List LaneRange → ℕ → LaneUse → Bool
moves_on slots rows b r = elim r.into [ None ↦ false | Some a ↦ is_live (why_of rows a b (piece_in_rows slots rows a b (exit_rank slots r.id))) ]
