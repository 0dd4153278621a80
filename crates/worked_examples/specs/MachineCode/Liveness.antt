-- Which lanes of the functions are live, and where.
use Rattle.std.specs.Prelude.{Decides, ℕ, List, [], ◌∷◌, ◌++◌}
use Rattle.target_base.specs.Mini.{mini_target}
use Rattle.meaning.specs.declared.types.Lane.{Lane}
use Rattle.meaning.specs.declared.types.Lane.TheVariants.{VirtualLane, UnitLane}
use Rattle.laws.specs.Tables.{lists}
use Rattle.mir_func.specs.Value.{Function}
use Rattle.mir_meaning.specs.Points.{Point, Start, Entry, Exit, LiveAt, OccupiedAt}
use Rattle.worked_examples.specs.MachineCode.Sample.{as_undef}
use Rattle.worked_examples.specs.MachineCode.Functions.{tied_add, swap, two_lanes, call_in_loop, idle_loop, begins}

-- just these lanes are live at the point
abbrev pub JustLive : Function → Point → List Lane → Type 0
JustLive f p ls = (l : Lane) → Decides (lists ls l) (LiveAt mini_target f p l)

-- the three lanes of a register of 32 bits
abbrev pub three : ℕ → List Lane
three v = VirtualLane v 0 ∷ VirtualLane v 1 ∷ VirtualLane v 2 ∷ []

abbrev pub eax_units : List Lane
eax_units = UnitLane 0 ∷ UnitLane 1 ∷ UnitLane 2 ∷ []

-- phis read at the ends of the blocks before, and their results begin where they stand
abbrev pub SwapLives : Type 0
SwapLives =
    JustLive swap (Entry 1) (three 0 ++ (UnitLane 3 ∷ UnitLane 4 ∷ UnitLane 5 ∷ []))
    × JustLive swap (Start 1) []
    × JustLive swap (Entry 3) (three 2)
    × JustLive swap (Entry 4) (three 2 ++ three 3)
    × JustLive swap (Entry 5) (three 2 ++ three 3)

abbrev pub TwoLanesLive : Type 0
TwoLanesLive =
    JustLive two_lanes (Start 0) (UnitLane 0 ∷ UnitLane 1 ∷ [])
    × JustLive two_lanes (Entry 1) (VirtualLane 0 0 ∷ UnitLane 1 ∷ [])
    × JustLive two_lanes (Entry 2) (VirtualLane 0 0 ∷ VirtualLane 1 0 ∷ [])
    × JustLive two_lanes (Entry 3) (VirtualLane 2 0 ∷ [])

-- the jump reads the flag of its condition alone, which is `equal`
abbrev pub CallInLoopLives : Type 0
CallInLoopLives =
    JustLive call_in_loop (Start 1) (three 0)
    × JustLive call_in_loop (Entry 2) (three 0 ++ eax_units)
    × JustLive call_in_loop (Entry 4) (three 0 ++ (UnitLane 12 ∷ []))
    × JustLive call_in_loop (Start 2) (three 0)

-- lanes that only move round a loop aren't live, nor is what they come from
abbrev pub IdleLoopLives : Type 0
IdleLoopLives = JustLive idle_loop (Start 0) [] × JustLive idle_loop (Start 1) [] × JustLive idle_loop (Entry 2) []

-- an `undef` definition with an index begins its register; one without `undef` leaves the other lanes live before it
abbrev pub UndefBegins : Type 0
UndefBegins = JustLive (begins as_undef) (Start 0) [] × JustLive (begins (λ o. o)) (Start 0) (VirtualLane 0 1 ∷ VirtualLane 0 2 ∷ []) × JustLive (begins as_undef) (Entry 1) (three 0)

-- flags that nobody reads are occupied where they are written, and live nowhere
abbrev pub DeadFlags : Type 0
DeadFlags = OccupiedAt mini_target tied_add (Exit 1) (UnitLane 12) × (LiveAt mini_target tied_add (Exit 1) (UnitLane 12) → ⊥)
