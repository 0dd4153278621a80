-- Rows of a table that are brought up to date after edits, from beginning to end.
use Rattle.std.specs.Prelude.{◌≡◌, ℕ, Bool, true, false, List, [], ◌++◌, Some}
use Rattle.target_base.specs.declared.types.Target.{Target}
use Rattle.mir_func.specs.Value.{Function}
use Rattle.mir_meaning.specs.Paths.{Among, Code}
use Rattle.live_lanes.specs.declared.compute.flow.BlockFlow.{BlockFlow}
use Rattle.live_lanes.specs.declared.row.Cause.{Cause}
use Rattle.live_lanes.specs.declared.row.LaneRange.{LaneRange}
use Rattle.live_lanes.specs.declared.table.Table.{Table}
use Rattle.live_lanes.specs.Graph.{Causes}
use Rattle.live_lanes.specs.Table.{Numbers, entry_rank, exit_rank}
use Rattle.live_lanes.specs.Entered.{rows_seen, causes, IsTableOf}
use Rattle.live_lanes.specs.Ends.{row_end}
use Rattle.live_lanes.specs.Growth.{piece_in_rows}
use Rattle.live_lanes.specs.Lasting.{shapes, right_end, AreOutward}
use Rattle.live_lanes.specs.Laws.{AllMatched}
use Rattle.live_lanes.specs.Doing.{IsComputed}
use Rattle.edit_laws.specs.CarriedRows.{CopiesPieces}
use Rattle.edit_laws.specs.Chains.{Node}
use Rattle.edit_laws.specs.Kept.{code_in, IsLaidOut}
use Rattle.edit_laws.specs.LetGo.{IsLetGo}
use Rattle.edit_laws.specs.Reasons.{ReasonFor, Touched, IsEditOf}
use Rattle.edit_laws.specs.Steps.{AreCodes}
use Rattle.edit_laws.specs.Update.{Falls, falling, Request, Asks, Rises, rising}

-- x: the rows before edits; z: those of the edited code, in which erased instructions stand and do nothing, with the causes and ends
-- of x, but that lanes which are let go are empty; y: those in the end. The pieces of the other lanes on both sides of each touched
-- instruction are looked at again; some fall, and of all these the ones that have a reason come alive. The pieces that were looked
-- at, and those with a reason which rests on one that fell or came alive, get their ends anew.
pub record AreRowsUpdated (touched : Touched) (old standing : Code) (slots : Numbers) (flow : List BlockFlow) (x z y : List LaneRange) : Type 0 where
  pub edited : IsEditOf touched old standing
  pub outward : AreOutward standing slots flow
  pub first : IsTableOf standing slots flow z
  pub table : IsTableOf standing slots flow y
  pub lets_go : ℕ → Bool
  pub emptied : (l : ℕ) → lets_go l ≡ true → IsLetGo standing z l
  pub copied : (l b : ℕ) → lets_go l ≡ false → CopiesPieces (rows_seen x l b) (rows_seen z l b)
  pub list : List Node
  pub listed : (l b id : ℕ) → lets_go l ≡ false → touched l b id ≡ true → Among {A = Node} (l, b, piece_in_rows slots z l b (entry_rank slots id)) list × Among {A = Node} (l, b, piece_in_rows slots z l b (exit_rank slots id)) list
  pub between : Causes
  pub fallen : List Node
  pub falls : Falls touched standing (falling (causes z) list [] list) (falling between [] [] (list ++ fallen))
  pub queue : List Request
  pub asks : Asks standing between (list ++ fallen) queue
  pub risen : List Node
  pub rises : Rises standing (rising between queue [] (list ++ fallen)) (rising (causes y) [] [] ((list ++ fallen) ++ risen))
  pub again : List Node
  pub with_list : (n : Node) → Among n list → Among n again
  pub with_needs : (m : Node) → Among m (fallen ++ risen) → (n : Node) (c : Cause) → ReasonFor standing n c (Some m) → Among n again
  pub ended : (n : Node) → Among n again → row_end y n.0 n.1 n.2 ≡ right_end slots flow (causes y) (shapes y) n.0 n.1 n.2
  pub kept : (n : Node) → (Among n again → ⊥) → row_end y n.0 n.1 n.2 ≡ row_end z n.0 n.1 n.2

-- A table that was computed for a function is computed for an edited one, where it has the edited function's lanes, blocks and
-- instructions, and its rows are brought up to date so.
abbrev pub RowsUpdateLaw : Type 0
RowsUpdateLaw =
    (t : Target) (f g : Function) (x y : Table) (z : List LaneRange) (touched : Touched) (standing : Code) (slots : Numbers) (flow : List BlockFlow) → IsComputed t f x → AllMatched (code_in t f x) → IsLaidOut t g y
    → AreRowsUpdated touched (code_in t f x) standing slots flow x.rows.rows.items z y.rows.rows.items → AreCodes (λ l. false) standing (code_in t g y) → IsComputed t g y
