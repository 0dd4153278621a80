-- What of a table of live lanes stays right over edits of its function.
use Rattle.std.specs.Prelude.{◌≡◌, ◌<◌, ℕ, Bool, true, false, List, length}
use Rattle.std.specs.Ordering.{nat_cmp}
use Rattle.std.specs.BTreeMap.{get}
use Rattle.target_base.specs.declared.types.Target.{Target}
use Rattle.slot_index.specs.Order.{ids, IsNumbered}
use Rattle.mir_func.specs.Value.{Function}
use Rattle.mir_meaning.specs.Points.{all_points}
use Rattle.mir_meaning.specs.Paths.{has, Code}
use Rattle.instr_effects.specs.Numbered.{number_in, NumbersAll}
use Rattle.live_lanes.specs.declared.row.LaneRange.{LaneRange}
use Rattle.live_lanes.specs.declared.table.Table.{Table}
use Rattle.live_lanes.specs.Table.{Numbers}
use Rattle.live_lanes.specs.Entered.{causes, rows_seen, IsTableOf}
use Rattle.live_lanes.specs.Ends.{IsEnd, row_end}
use Rattle.live_lanes.specs.Ordered.{all_ids, place_of, AreHomes}
use Rattle.live_lanes.specs.Flowing.{AreWays}
use Rattle.live_lanes.specs.Laws.{AllMatched}
use Rattle.live_lanes.specs.Doing.{lane_code, IsComputed}
use Rattle.edit_laws.specs.Steps.{AreCodes, AreRight}

-- the function by the numbers that the table gives its lanes
abbrev pub code_in : Target → Function → Table → Code
code_in t f x = lane_code t f (number_in x.lanes)

-- the table has the function's lanes, blocks and instructions: all of a computed table but why pieces are live and where they end
pub record IsLaidOut (t : Target) (f : Function) (x : Table) : Type 0 where
  pub numbers : NumbersAll t f x.lanes
  pub positions : (n : ℕ) → get nat_cmp x.order.positions n ≡ place_of n f.blocks
  pub homes : AreHomes f.blocks x.order.block_of.items
  pub ways : AreWays t (λ n. place_of n f.blocks) f.blocks x.flow.items
  pub layout : ids x.order.slots ≡ all_ids f.blocks
  pub numbered : IsNumbered x.order.slots
  pub short : (id : ℕ) → has id (all_ids f.blocks) ≡ true → id < 4294967296
  pub few : length (all_points f) < 18446744073709551616
  pub table : AllMatched (code_in t f x) → IsTableOf (code_in t f x) x.order.slots x.flow.items x.rows.rows.items

-- the other lanes are as they were
abbrev pub KeepRows : (ℕ → Bool) → Table → Table → Type 0
KeepRows told x y = (l b : ℕ) → told l ≡ false → rows_seen y.rows.rows.items l b ≡ rows_seen x.rows.rows.items l b

-- the pieces of the lanes that the test tells are right in the table
pub record AreRightIn (told : ℕ → Bool) (code : Code) (slots : Numbers) (rows : List LaneRange) : Type 0 where
  pub live : AreRight told code (causes rows)
  pub ends : (l b n : ℕ) → told l ≡ true → IsEnd code slots (causes rows) l b n (row_end rows l b n)

-- A table that was computed for a function is computed for an edited one, where it has the edited function's lanes, blocks and
-- instructions, the lanes that the test tells are right, and all other lanes are as they were.
abbrev pub KeptLaw : Type 0
KeptLaw =
    (t : Target) (f g : Function) (x y : Table) (told : ℕ → Bool) → IsComputed t f x → AllMatched (code_in t f x) → IsLaidOut t g y → AreCodes told (code_in t f x) (code_in t g y)
    → KeepRows told x y → AreRightIn told (code_in t g y) y.order.slots y.rows.rows.items → IsComputed t g y
