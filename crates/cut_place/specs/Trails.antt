-- Augmenting paths, followed back from the sink.
use Rattle.std.specs.Prelude.{◌≡◌, ℕ, ◌+◌, ◌-◌, ◌<◌, ◌≤◌, ◌≢◌, cond, List, [], ◌∷◌, length, slice_index, slice_index_or, slice_set, true, false}
use Rattle.cut_place.specs.declared.net.Arc.{Arc}
use Rattle.cut_place.specs.declared.steps.ResidualArc.{ResidualArc}
use Rattle.cut_place.specs.Flows.{arc_at}
use Rattle.cut_place.specs.Residual.{tail_of, head_of, residual_of}

-- residual arcs, one before the other, from a node back to another: each leaves a node one level
-- lower and has room for an amount
abbrev pub IsTrail : List Arc → List ℕ → List ℕ → ℕ → ℕ → List ResidualArc → ℕ → Type 0
IsTrail arcs flow levels amount at [] start = at ≡ start
IsTrail arcs flow levels amount at (s ∷ steps) start =
    (s.arc < length arcs) × (head_of arcs s ≡ at) × (slice_index levels (tail_of arcs s) + 1 ≡ slice_index levels at)
    × (amount ≤ residual_of arcs flow s) × IsTrail arcs flow levels amount (tail_of arcs s) steps start

abbrev pub no_step : ResidualArc
no_step = record { arc = 0; along = false }

abbrev pub step_at : List ResidualArc → ℕ → ResidualArc
step_at steps k = slice_index_or steps k no_step

-- a residual arc with room enters a node, from a node one level lower
abbrev pub LeadsTo : List Arc → List ℕ → List ℕ → ℕ → ResidualArc → Type 0
LeadsTo arcs flow levels at s =
    (s.arc < length arcs) × (head_of arcs s ≡ at) × (1 ≤ residual_of arcs flow s) × (slice_index levels (tail_of arcs s) + 1 ≡ slice_index levels at)

-- a residual arc leads to each node that was reached, but for the source
abbrev pub IsTree : List Arc → List ℕ → List ℕ → List ResidualArc → Type 0
IsTree arcs flow levels before =
    (v : ℕ) → v < length levels → v ≢ 0 → slice_index levels v < 4096 → LeadsTo arcs flow levels v (step_at before v)
