-- A table of live lanes that is brought up to date after edits of its function.
use Rattle.std.specs.Prelude.{◌≡◌, ◌⊎◌, ℕ, false, List, Option}
use Rattle.target_base.specs.declared.types.Target.{Target}
use Rattle.mir_func.specs.Value.{Function}
use Rattle.mir_meaning.specs.Paths.{Among, Code}
use Rattle.live_lanes.specs.declared.row.LaneRange.{LaneRange}
use Rattle.live_lanes.specs.declared.table.Table.{Table}
use Rattle.live_lanes.specs.Graph.{Causes}
use Rattle.live_lanes.specs.Table.{Numbers}
use Rattle.live_lanes.specs.Entered.{IsNumbered, causes}
use Rattle.live_lanes.specs.Ends.{IsEnd, row_end}
use Rattle.live_lanes.specs.Laws.{AllMatched}
use Rattle.live_lanes.specs.Doing.{IsComputed}
use Rattle.edit_laws.specs.Chains.{Node}
use Rattle.edit_laws.specs.Kept.{code_in, IsLaidOut}
use Rattle.edit_laws.specs.Reasons.{Touched, Begins}
use Rattle.edit_laws.specs.Steps.{AreCodes}
use Rattle.edit_laws.specs.Update.{IsUpdated, LeadsInto}

-- a piece that begins as one of before, isn't listed, and leads to none that died or came alive, has the end that it had
pub record KeepsEnd (old new : Code) (list changed : List Node) (x y : List LaneRange) (l b n : ℕ) : Type 0 where
  pub number : ℕ
  pub start : Option ℕ
  pub before : Begins old l b number start
  pub after : Begins new l b n start
  pub unlisted : Among {A = Node} (l, b, n) list → ⊥
  pub apart : LeadsInto new changed (l, b, n) → ⊥
  pub same : row_end y l b n ≡ row_end x l b number

-- A table that was computed for a function is computed for an edited one, where it has the edited function's lanes, blocks and
-- instructions, its causes are brought up to date over the code in which erased instructions stand and do nothing, and each piece
-- keeps its end so or gets it anew.
abbrev pub TableUpdateLaw : Type 0
TableUpdateLaw =
    (t : Target) (f g : Function) (x y : Table) → IsComputed t f x → AllMatched (code_in t f x) → IsLaidOut t g y
    → (touched : Touched) (standing : Code) (slots : Numbers) (before : Causes) (changed : List Node) → IsNumbered standing slots → AllMatched standing
    → (u : IsUpdated touched (code_in t f x) standing (causes x.rows.rows.items) before (causes y.rows.rows.items) changed) → AreCodes (λ l. false) standing (code_in t g y)
    → ((l b n : ℕ) → IsEnd standing slots (causes y.rows.rows.items) l b n (row_end y.rows.rows.items l b n) ⊎ KeepsEnd (code_in t f x) standing u.list changed x.rows.rows.items y.rows.rows.items l b n)
    → IsComputed t g y
