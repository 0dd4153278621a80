-- The ways into and out of blocks, by their positions.
use Rattle.std.specs.Prelude.{ℕ, List, [], Option, None, Some, slice_get}
use Rattle.live_lanes.specs.declared.compute.flow.BlockFlow.{BlockFlow}

abbrev pub predecessors : List BlockFlow → ℕ → List ℕ
predecessors flow b = elim (slice_get flow b) [ None ↦ [] | Some w ↦ w.predecessors.items ]

abbrev pub terminators : List BlockFlow → ℕ → List ℕ
terminators flow b = elim (slice_get flow b) [ None ↦ [] | Some w ↦ w.terminators.items ]

abbrev pub successors : List BlockFlow → ℕ → List ℕ
successors flow b = elim (slice_get flow b) [ None ↦ [] | Some w ↦ w.successors.items ]
