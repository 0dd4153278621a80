-- Lanes that have numbers keep them while further ones get some.
use Rattle.std.specs.Prelude.{◌≡◌, ◌<◌, ℕ, length}
use Rattle.instr_effects.specs.Numbered.{number_in, KeepsNumbers}
use Rattle.live_lanes.specs.declared.table.Table.{Table}
use Rattle.live_lanes.specs.Entered.{rows_seen}

-- The table with numbers for further lanes, whose rows are empty: lanes keep their numbers and rows, and all else stays.
pub record HasFurtherLanes (x y : Table) : Type 0 where
  pub numbers : KeepsNumbers (number_in x.lanes) (number_in y.lanes)
  pub rows : (l b : ℕ) → rows_seen y.rows.rows.items l b ≡ rows_seen x.rows.rows.items l b
  pub few : length y.rows.rows.items < 4294967296
  pub order : y.order ≡ x.order
  pub flow : y.flow ≡ x.flow
