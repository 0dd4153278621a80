-- The residual net of a flow.
use Rattle.std.specs.Prelude.{◌≡◌, ℕ, ◌+◌, ◌-◌, ◌<◌, ◌≤◌, cond, List, [], ◌∷◌, length, slice_index, slice_set}
use Rattle.cut_place.specs.declared.net.Arc.{Arc}
use Rattle.cut_place.specs.declared.steps.ResidualArc.{ResidualArc}
use Rattle.cut_place.specs.Flows.{arc_at}

abbrev pub tail_of : List Arc → ResidualArc → ℕ
tail_of arcs s = cond s.along (arc_at arcs s.arc).from (arc_at arcs s.arc).to

abbrev pub head_of : List Arc → ResidualArc → ℕ
head_of arcs s = cond s.along (arc_at arcs s.arc).to (arc_at arcs s.arc).from

-- what more can flow along a residual arc
abbrev pub residual_of : List Arc → List ℕ → ResidualArc → ℕ
residual_of arcs flow s = cond s.along ((arc_at arcs s.arc).cap - slice_index flow s.arc) (slice_index flow s.arc)

-- a flow after an amount is sent along a residual arc
abbrev pub pushed : List ℕ → ResidualArc → ℕ → List ℕ
pushed flow s amount =
    slice_set flow s.arc (cond s.along (slice_index flow s.arc + amount) (slice_index flow s.arc - amount))
