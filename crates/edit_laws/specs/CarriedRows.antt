-- Rows of an edited code into which causes and ends are copied from those of before, by the instructions that begin pieces.
use Rattle.std.specs.Prelude.{◌≡◌, ℕ, nat_eq, List, Option, Some, slice_get}
use Rattle.std.specs.List.{find}
use Rattle.mir_meaning.specs.Paths.{Code}
use Rattle.live_lanes.specs.declared.compute.flow.BlockFlow.{BlockFlow}
use Rattle.live_lanes.specs.declared.row.LaneRange.{LaneRange}
use Rattle.live_lanes.specs.Table.{Numbers, Begun, Seen, begun_cause, begun_end}
use Rattle.live_lanes.specs.Entered.{rows_seen, causes, IsTableOf}
use Rattle.live_lanes.specs.Ends.{row_end}
use Rattle.edit_laws.specs.Reasons.{Touched, Begins, AreCarried}

-- the piece that the instruction of an id begins
abbrev pub started : ℕ → List Begun → Option Begun
started id ss = find (λ s. nat_eq s.start id) ss

-- Each piece has the cause and the end of the one that began so before. Where none did, it isn't live and has no end.
pub record CopiesPieces (old new : Seen) : Type 0 where
  pub first_cause : new.cause ≡ old.cause
  pub first_end : new.end ≡ old.end
  pub piece_cause : (k : ℕ) (s : Begun) → slice_get new.segments k ≡ Some s → s.cause ≡ begun_cause (started s.start old.segments)
  pub piece_end : (k : ℕ) (s : Begun) → slice_get new.segments k ≡ Some s → s.end ≡ begun_end (started s.start old.segments)

-- then causes are carried over, and so are ends
pub record AreCopied (touched : Touched) (old new : Code) (x y : List LaneRange) : Type 0 where
  pub carried : AreCarried touched old new (causes x) (causes y)
  pub ends : (l b m n : ℕ) (start : Option ℕ) → Begins old l b m start → Begins new l b n start → row_end y l b n ≡ row_end x l b m

abbrev pub CarriedRowsLaw : Type 0
CarriedRowsLaw =
    (touched : Touched) (old new : Code) (slots slots' : Numbers) (flow flow' : List BlockFlow) (x y : List LaneRange) → IsTableOf old slots flow x → IsTableOf new slots' flow' y
    → ((l b : ℕ) → CopiesPieces (rows_seen x l b) (rows_seen y l b)) → AreCopied touched old new x y
