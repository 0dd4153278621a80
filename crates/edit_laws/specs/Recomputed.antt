-- Ends of pieces that are computed anew after edits.
use Rattle.std.specs.Prelude.{◌≡◌, ℕ, false, List, Option, Some, length}
use Rattle.target_base.specs.declared.types.Target.{Target}
use Rattle.mir_func.specs.Value.{Function}
use Rattle.mir_meaning.specs.Paths.{Among, Code, steps_of}
use Rattle.live_lanes.specs.declared.row.Cause.{Cause}
use Rattle.live_lanes.specs.declared.row.LaneRange.{LaneRange}
use Rattle.live_lanes.specs.declared.table.Table.{Table}
use Rattle.live_lanes.specs.Graph.{Causes, writes_in, IsGrown}
use Rattle.live_lanes.specs.Table.{Numbers}
use Rattle.live_lanes.specs.Entered.{IsNumbered, causes, rows_seen}
use Rattle.live_lanes.specs.Ends.{IsEnd, row_end, AreEnds}
use Rattle.live_lanes.specs.Laws.{AllMatched}
use Rattle.live_lanes.specs.Doing.{IsComputed}
use Rattle.edit_laws.specs.Chains.{Node, cause_at}
use Rattle.edit_laws.specs.Kept.{code_in, IsLaidOut}
use Rattle.edit_laws.specs.Reasons.{ReasonFor, Touched, IsEditOf, Begins, AreCarried, AreListed}
use Rattle.edit_laws.specs.Steps.{AreCodes}
use Rattle.edit_laws.specs.Update.{IsUpdated}

-- After edits the ends of some pieces are computed anew, and are right: of all that are listed, and of all that have a reason which
-- rests on a piece that died or came alive. Each other piece that begins as one of before has the end that it had.
pub record AreRecomputed (old new : Code) (slots : Numbers) (before : Causes) (list again : List Node) (x y : List LaneRange) : Type 0 where
  pub listed : (n : Node) → Among n list → Among n again
  pub leading : (n m : Node) (c : Cause) → ReasonFor new n c (Some m) → (cause_at (causes y) m ≡ cause_at before m → ⊥) → Among n again
  pub right : (n : Node) → Among n again → IsEnd new slots (causes y) n.0 n.1 n.2 (row_end y n.0 n.1 n.2)
  pub kept : (l b m n : ℕ) (start : Option ℕ) → Begins old l b m start → Begins new l b n start → (Among {A = Node} (l, b, n) again → ⊥) → row_end y l b n ≡ row_end x l b m

-- the rows hold as many pieces of each lane in each block as the code has
abbrev pub HaveAllPieces : Code → List LaneRange → Type 0
HaveAllPieces code rows = (l b : ℕ) → length (rows_seen rows l b).segments ≡ writes_in l (steps_of code b)

-- Then each piece has its end.
abbrev pub RecomputedLaw : Type 0
RecomputedLaw =
    (touched : Touched) (old new : Code) (slots slots' : Numbers) (x y : List LaneRange) (before : Causes) (list again : List Node) → IsGrown old (causes x) → IsNumbered old slots → IsNumbered new slots'
    → AllMatched old → AllMatched new → IsEditOf touched old new → AreCarried touched old new (causes x) before → AreListed touched new list → AreEnds old slots x → HaveAllPieces new y
    → AreRecomputed old new slots' before list again x y → AreEnds new slots' y

-- A table that was computed for a function is computed for an edited one, where it has the edited function's lanes, blocks and
-- instructions, its causes are brought up to date over the code in which erased instructions stand and do nothing, and the ends of
-- the pieces concerned are computed anew.
abbrev pub TableRecomputedLaw : Type 0
TableRecomputedLaw =
    (t : Target) (f g : Function) (x y : Table) → IsComputed t f x → AllMatched (code_in t f x) → IsLaidOut t g y
    → (touched : Touched) (standing : Code) (slots : Numbers) (before : Causes) (changed again : List Node) → IsNumbered standing slots → AllMatched standing
    → (u : IsUpdated touched (code_in t f x) standing (causes x.rows.rows.items) before (causes y.rows.rows.items) changed) → AreCodes (λ l. false) standing (code_in t g y)
    → AreRecomputed (code_in t f x) standing slots before u.list again x.rows.rows.items y.rows.rows.items → IsComputed t g y
