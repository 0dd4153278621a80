-- How a table tells that the cause of a piece holds as before, and which cause needs no other piece.
use Rattle.std.specs.Prelude.{◌≡◌, ℕ, true, false, List, None, length}
use Rattle.mir_meaning.specs.Paths.{Among, Code}
use Rattle.live_lanes.specs.declared.compute.flow.BlockFlow.{BlockFlow}
use Rattle.live_lanes.specs.declared.row.Cause.{Cause}
use Rattle.live_lanes.specs.declared.row.Cause.TheVariants as reasons
use Rattle.live_lanes.specs.declared.row.LaneRange.{LaneRange}
use Rattle.live_lanes.specs.Graph.{Causes, is_live, IsGrown}
use Rattle.live_lanes.specs.Ways.{terminators}
use Rattle.live_lanes.specs.Table.{Numbers, entry_rank, exit_rank, certain_cause}
use Rattle.live_lanes.specs.Entered.{rows_seen, causes, IsTableOf}
use Rattle.live_lanes.specs.Growth.{piece_in_rows}
use Rattle.edit_laws.specs.Reasons.{IsReason, Touched, IsEditOf, IsKept, AreCarried, AreListed}
use Rattle.edit_laws.specs.Chains.{Node}
use Rattle.edit_laws.specs.Update.{Holds}

-- The cause of a piece holds, as the table tells it: there is none; it is a reading of the piece, by an instruction that isn't touched
-- at all; or it is a block that follows, and the piece lasts up to an exit of its block.
pub data IsHeld (touched : Touched) (slots : Numbers) (flow : List BlockFlow) (rows : List LaneRange) (l b n : ℕ) : Type 0 where
  held_dead : is_live (causes rows l b n) ≡ false → IsHeld touched slots flow rows l b n
  held_reading : (id : ℕ) → causes rows l b n ≡ reasons.Reading id → ((a : ℕ) → touched a b id ≡ false) → piece_in_rows slots rows l b (entry_rank slots id) ≡ n → IsHeld touched slots flow rows l b n
  held_exit : (x id : ℕ) → causes rows l b n ≡ reasons.Follower x → Among id (terminators flow b) → piece_in_rows slots rows l b (exit_rank slots id) ≡ n → IsHeld touched slots flow rows l b n
  held_end : (x : ℕ) → causes rows l b n ≡ reasons.Follower x → length (rows_seen rows l b).segments ≡ n → IsHeld touched slots flow rows l b n

-- Then it does, in a table that was grown before edits and is carried over to the code after them.
abbrev pub HeldLaw : Type 0
HeldLaw =
    (touched : Touched) (old new : Code) (slots : Numbers) (flow : List BlockFlow) (was : Causes) (rows : List LaneRange) (list : List Node) → IsGrown old was
    → IsTableOf new slots flow rows → IsEditOf touched old new → AreCarried touched old new was (causes rows) → AreListed touched new list → (l b n : ℕ) → IsHeld touched slots flow rows l b n → Holds touched new (causes rows) l b n

-- each live piece begins as one of before, and has its cause; some that were live may be so no longer
abbrev pub KeepCauses : Code → Code → Causes → Causes → Type 0
KeepCauses old new was why = (l b n : ℕ) → is_live (why l b n) ≡ true → (k : IsKept old new l b n) × (why l b n ≡ was l b k.number)

-- This is enough.
abbrev pub KeptHeldLaw : Type 0
KeptHeldLaw =
    (touched : Touched) (old new : Code) (slots : Numbers) (flow : List BlockFlow) (was : Causes) (rows : List LaneRange) → IsGrown old was → IsTableOf new slots flow rows → IsEditOf touched old new
    → KeepCauses old new was (causes rows) → (l b n : ℕ) → IsHeld touched slots flow rows l b n → Holds touched new (causes rows) l b n

-- where the pieces on both sides of each touched instruction are listed as the table tells them, they are
abbrev pub ListedLaw : Type 0
ListedLaw =
    (touched : Touched) (code : Code) (slots : Numbers) (flow : List BlockFlow) (rows : List LaneRange) (list : List Node) → IsTableOf code slots flow rows
    → ((l b id : ℕ) → touched l b id ≡ true → Among {A = Node} (l, b, piece_in_rows slots rows l b (entry_rank slots id)) list × Among {A = Node} (l, b, piece_in_rows slots rows l b (exit_rank slots id)) list)
    → AreListed touched code list

-- The certain cause of a piece is a reason that rests on no other piece, and there is one where there is such a reason.
pub record IsCertainCause (code : Code) (l b n : ℕ) (cause : Cause) : Type 0 where
  pub reason : is_live cause ≡ true → IsReason code l b n cause None
  pub there : (c : Cause) → IsReason code l b n c None → is_live cause ≡ true

abbrev pub CertainCauseLaw : Type 0
CertainCauseLaw =
    (code : Code) (slots : Numbers) (flow : List BlockFlow) (rows : List LaneRange) → IsTableOf code slots flow rows → (l b n : ℕ) → IsCertainCause code l b n (certain_cause (rows_seen rows l b) n)
