-- What a search of the residual net has reached.
use Rattle.std.specs.Prelude.{◌≡◌, ℕ, ◌+◌, ◌<◌, ◌≤◌, Bool, true, cond, nat_lt, List, [], ◌∷◌, length, slice_index}
use Rattle.cut_place.specs.declared.net.Arc.{Arc}
use Rattle.cut_place.specs.declared.steps.ResidualArc.{ResidualArc}
use Rattle.cut_place.specs.Residual.{tail_of, head_of, residual_of}
use Rattle.cut_place.specs.Trails.{IsTree}

-- a node was reached where its level is below 4,096
abbrev pub reached : List ℕ → ℕ → Bool
reached levels v = nat_lt (slice_index levels v) 4096

-- how many nodes were not reached
abbrev pub unreached : List ℕ → ℕ
unreached [] = 0
unreached (l ∷ levels) = cond (nat_lt l 4096) 0 1 + unreached levels

-- a residual arc doesn't leave a set of nodes
abbrev pub Stays : (ℕ → Bool) → List Arc → List ℕ → ResidualArc → Type 0
Stays nodes arcs flow s = nodes (tail_of arcs s) ≡ true → 1 ≤ residual_of arcs flow s → nodes (head_of arcs s) ≡ true

-- no residual arc leaves a set of nodes
abbrev pub IsClosed : (ℕ → Bool) → List Arc → List ℕ → Type 0
IsClosed nodes arcs flow = (s : ResidualArc) → s.arc < length arcs → Stays nodes arcs flow s

pub record IsSearch (arcs : List Arc) (flow levels : List ℕ) (before : List ResidualArc) (queue : List ℕ) : Type 0 where
  pub nodes : 2 ≤ length levels
  pub most : length levels ≤ 4096
  pub same : length before ≡ length levels
  pub source : slice_index levels 0 ≡ 0
  pub tree : IsTree arcs flow levels before
  pub bound : (v : ℕ) → v < length levels → slice_index levels v < 4096 → slice_index levels v + unreached levels < length levels
  pub queued : (k : ℕ) → k < length queue → slice_index queue k < length levels
  pub sound : (nodes : ℕ → Bool) → nodes 0 ≡ true → IsClosed nodes arcs flow → (v : ℕ) → v < length levels → slice_index levels v < 4096 → nodes v ≡ true
