-- What the instructions of a function do to its lanes, which go by numbers.
use Rattle.std.specs.Prelude.{◌≡◌, ◌<◌, ℕ, true, ◌++◌, length, map, filter_map}
use Rattle.std.specs.Ordering.{nat_cmp}
use Rattle.std.specs.BTreeMap.{get}
use Rattle.target_base.specs.declared.types.Target.{Target}
use Rattle.slot_index.specs.Order.{ids, IsNumbered}
use Rattle.mir_func.specs.declared.func.Instr.{Instr}
use Rattle.mir_func.specs.Value.{Function}
use Rattle.mir_func.specs.Binding.{does, is_terminator}
use Rattle.mir_meaning.specs.Points.{all_points}
use Rattle.instr_effects.specs.Acts.{acts_of, read_owners, entered_reads, entered_writes}
use Rattle.instr_effects.specs.Ends.{end_uses}
use Rattle.instr_effects.specs.Numbered.{number_in, NumbersAll}
use Rattle.instr_effects.specs.Steps.{Numbering, act_readings, act_writings, phi_read_of}
use Rattle.live_lanes.specs.declared.table.Table.{Table}
use Rattle.mir_meaning.specs.Paths.{has, Code}
use Rattle.live_lanes.specs.Graph.{IsGrown}
use Rattle.live_lanes.specs.Entered.{causes, IsTableOf}
use Rattle.live_lanes.specs.Ends.{AreEnds}
use Rattle.live_lanes.specs.Entering.{EnteredStep}
use Rattle.live_lanes.specs.Ordered.{all_ids, place_of, AreHomes}
use Rattle.live_lanes.specs.Flowing.{AreWays}
use Rattle.live_lanes.specs.Coded.{code_of}
use Rattle.live_lanes.specs.Laws.{AllMatched}

-- what an instruction does, and what it reads at the ends of other blocks
abbrev pub doing_of : Target → Function → Numbering → Instr → EnteredStep
doing_of t f num i =
    (record { id = i.id; reads = filter_map num (read_owners (entered_reads t f i)) ++ act_readings num (acts_of (entered_writes t f i)); writes = act_writings num (acts_of (entered_writes t f i)); leaves = does is_terminator t i }, map (phi_read_of t f num) (end_uses t i))

-- the function over numbered lanes
abbrev pub lane_code : Target → Function → Numbering → Code
lane_code t f num = code_of (doing_of t f num) (λ n. place_of n f.blocks) f.blocks

-- the table tells of the function, whose points can be counted in 64 bits, the ways between its blocks, which lanes are live where blocks and writings begin, and up to where
pub record IsComputed (t : Target) (f : Function) (x : Table) : Type 0 where
  pub numbers : NumbersAll t f x.lanes
  pub positions : (n : ℕ) → get nat_cmp x.order.positions n ≡ place_of n f.blocks
  pub homes : AreHomes f.blocks x.order.block_of.items
  pub ways : AreWays t (λ n. place_of n f.blocks) f.blocks x.flow.items
  pub layout : ids x.order.slots ≡ all_ids f.blocks
  pub numbered : IsNumbered x.order.slots
  pub short : (id : ℕ) → has id (all_ids f.blocks) ≡ true → id < 4294967296
  pub few : length (all_points f) < 18446744073709551616
  pub table : AllMatched (lane_code t f (number_in x.lanes)) → IsTableOf (lane_code t f (number_in x.lanes)) x.order.slots x.flow.items x.rows.rows.items
  pub grown : AllMatched (lane_code t f (number_in x.lanes)) → IsGrown (lane_code t f (number_in x.lanes)) (causes x.rows.rows.items)
  pub ended : AllMatched (lane_code t f (number_in x.lanes)) → AreEnds (lane_code t f (number_in x.lanes)) x.order.slots x.rows.rows.items
