-- Which lanes are live.
use Rattle.meaning.specs.Code.{found}
use Rattle.meaning.specs.Live.{Live}
use Rattle.worked_examples.specs.Code.Samples.{reg}
use Rattle.worked_examples.specs.Code.Codes.{unreserved, idle_loop, read_loop, stored_and_reloaded}

-- lanes that only move round a loop aren't live
abbrev pub IdleCopies : Type 0
IdleCopies = (Live unreserved idle_loop (found 1 idle_loop) (reg 0) → ⊥) × (Live unreserved idle_loop (found 1 idle_loop) (reg 1) → ⊥) × Live unreserved idle_loop (found 1 idle_loop) (reg 2)

-- one reading behind the loop makes the lane live from which it is copied, and not the one that is written first
abbrev pub ReadCopies : Type 0
ReadCopies = Live unreserved read_loop (found 1 read_loop) (reg 1) × (Live unreserved read_loop (found 1 read_loop) (reg 0) → ⊥)

-- a store is read where its slot's lane is reloaded, at whatever width
abbrev pub StoresAreRead : Type 0
StoresAreRead =
    Live unreserved (stored_and_reloaded 8) (stored_and_reloaded 8) (reg 0)
    × Live unreserved (stored_and_reloaded 16) (stored_and_reloaded 16) (reg 0)
