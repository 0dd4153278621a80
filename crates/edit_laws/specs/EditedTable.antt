-- A table of live lanes over a list of edits, from the table of before to that of the edited function.
use Rattle.std.specs.Prelude.{◌≡◌, ◌<◌, ℕ, Bool, true, false, List, [], ◌++◌, Some, length}
use Rattle.target_base.specs.declared.types.Target.{Target}
use Rattle.slot_index.specs.Order.{ids, number_of}
use Rattle.slot_index.specs.Renewed.{low_end}
use Rattle.mir_func.specs.Value.{Function, IsFunction}
use Rattle.mir_meaning.specs.Paths.{Among, Code, has}
use Rattle.instr_effects.specs.Numbered.{number_in, NumbersAll, KeepsNumbers}
use Rattle.instr_effects.specs.Steps.{Numbering}
use Rattle.live_lanes.specs.declared.compute.flow.BlockFlow.{BlockFlow}
use Rattle.live_lanes.specs.declared.row.Cause.{Cause}
use Rattle.live_lanes.specs.declared.row.LaneRange.{LaneRange}
use Rattle.live_lanes.specs.declared.table.Table.{Table}
use Rattle.live_lanes.specs.Graph.{Causes}
use Rattle.live_lanes.specs.Table.{Numbers, entry_rank, exit_rank}
use Rattle.live_lanes.specs.Entered.{shape, rows_seen, causes, IsNumbered, IsFlow}
use Rattle.live_lanes.specs.Ends.{row_end}
use Rattle.live_lanes.specs.Growth.{piece_in_rows}
use Rattle.live_lanes.specs.Lasting.{shapes, right_end, AreOutward}
use Rattle.live_lanes.specs.Doing.{lane_code, IsComputed}
use Rattle.live_lanes.specs.Ordered.{last_id}
use Rattle.live_laws.specs.Effects.Coded.{KeepsRules}
use Rattle.edit_laws.specs.Chains.{Node}
use Rattle.edit_laws.specs.Deferred.{all_deferred, all_gone, standing_code, TouchesEdits, SpareGone}
use Rattle.edit_laws.specs.Edits.{Edit, all_edited}
use Rattle.edit_laws.specs.Further.{KeepsLast}
use Rattle.edit_laws.specs.LetGo.{IsLaneEdited}
use Rattle.edit_laws.specs.Ordering.{IsOrdered}
use Rattle.edit_laws.specs.Reasons.{ReasonFor, Touched, IsEditOf}
use Rattle.edit_laws.specs.Update.{Falls, falling, Request, Asks, Rises, rising}

-- Where terminators stay, the ways between blocks are those of the edited code too.
abbrev pub FlowLaw : Type 0
FlowLaw = (touched : Touched) (old new : Code) (flow : List BlockFlow) → IsEditOf touched old new → IsFlow old flow → IsFlow new flow

-- the numbers of the code's instructions rise, and so do those of the terminators; the ways are told from both ends
pub record HasOrder (code : Code) (slots : Numbers) (flow : List BlockFlow) : Type 0 where
  pub numbered : IsNumbered code slots
  pub outward : AreOutward code slots flow

-- The order of a function in which erased instructions stand is that of its code.
abbrev pub StandingOrderLaw : Type 0
StandingOrderLaw =
    (t : Target) (f : Function) (num : Numbering) (es : List Edit) (u : Table) → IsFunction f.blocks f.next_id → IsOrdered t (all_deferred f es) u
    → low_end (last_id (ids u.order.slots)) u.order.slots < 18446744073709551616 → HasOrder (standing_code t f num es) u.order.slots u.flow.items

-- x: the rows before edits; z: the cells of lanes touched are made anew over the code in which erased instructions stand, with the
-- causes and ends of before, and the rows of lanes that are let go are emptied; y: the rows in the end. Between z and y pieces fall
-- and come alive, and ends are computed anew, as in `AreRowsUpdated`.
pub record AreRowsEdited (touched : Touched) (old standing : Code) (slots : Numbers) (flow : List BlockFlow) (x z y : List LaneRange) : Type 0 where
  pub lets_go : ℕ → Bool
  pub lanes_edited : (l : ℕ) → IsLaneEdited old standing l x z (lets_go l)
  pub few : length z < 4294967296
  pub kept_shapes : (l b : ℕ) → shape (rows_seen y l b) ≡ shape (rows_seen z l b)
  pub lanes : length y ≡ length z
  pub list : List Node
  pub listed : (l b id : ℕ) → lets_go l ≡ false → touched l b id ≡ true → Among {A = Node} (l, b, piece_in_rows slots z l b (entry_rank slots id)) list × Among {A = Node} (l, b, piece_in_rows slots z l b (exit_rank slots id)) list
  pub between : Causes
  pub fallen : List Node
  pub falls : Falls touched standing (falling (causes z) list [] list) (falling between [] [] (list ++ fallen))
  pub queue : List Request
  pub asks : Asks standing between (list ++ fallen) queue
  pub risen : List Node
  pub rises : Rises standing (rising between queue [] (list ++ fallen)) (rising (causes y) [] [] ((list ++ fallen) ++ risen))
  pub again : List Node
  pub with_list : (n : Node) → Among n list → Among n again
  pub with_needs : (m : Node) → Among m (fallen ++ risen) → (n : Node) (c : Cause) → ReasonFor standing n c (Some m) → Among n again
  pub ended : (n : Node) → Among n again → row_end y n.0 n.1 n.2 ≡ right_end slots flow (causes y) (shapes y) n.0 n.1 n.2
  pub kept : (n : Node) → (Among n again → ⊥) → row_end y n.0 n.1 n.2 ≡ row_end z n.0 n.1 n.2

-- the tables before, while and after edits are done
pub record AreStages (t : Target) (f : Function) (es : List Edit) (x u y : Table) : Type 0 where
  pub ordered : IsOrdered t (all_deferred f es) u
  pub small : low_end (last_id (ids u.order.slots)) u.order.slots < 18446744073709551616
  pub ways : u.flow ≡ x.flow
  pub after : IsOrdered t (all_edited f es) y
  pub same_ways : y.flow ≡ x.flow
  pub same_numbers : (id : ℕ) → has id (all_gone [] es) ≡ false → number_of y.order.slots id ≡ number_of u.order.slots id
  pub function : IsFunction (all_edited f es).blocks (all_edited f es).next_id
  pub short : (all_edited f es).next_id < 4294967296
  pub few : length (all_edited f es).blocks < 4294967296
  pub lanes : NumbersAll t (all_edited f es) y.lanes
  pub kept_lanes : KeepsNumbers (number_in x.lanes) (number_in y.lanes)

-- A table that was computed for a function is computed for the function after edits, where each edit is touched, none changes what one
-- before erased, the order of instructions and the numbers of lanes follow the edits, and rows are brought up to date so.
abbrev pub EditedTableLaw : Type 0
EditedTableLaw =
    (touched : Touched) (t : Target) (f : Function) (es : List Edit) (x u y : Table) (z : List LaneRange) → IsComputed t f x → KeepsRules t f → KeepsLast t f → IsFunction f.blocks f.next_id
    → SpareGone [] f es → TouchesEdits touched t f (number_in y.lanes) es → AreStages t f es x u y
    → AreRowsEdited touched (lane_code t f (number_in y.lanes)) (standing_code t f (number_in y.lanes) es) u.order.slots u.flow.items x.rows.rows.items z y.rows.rows.items
    → IsComputed t (all_edited f es) y
