-- Flows through a net from node 0, the source, to node 1, the sink, and cuts between the two.
use Rattle.std.specs.Prelude.{◌≡◌, ℕ, ◌+◌, ◌<◌, ◌≤◌, ◌≢◌, ◌==◌, ◌^◌, Bool, true, false, cond, not, List, [], ◌∷◌, length, slice_index, slice_index_or}
use Rattle.cut_place.specs.declared.net.Arc.{Arc}

abbrev pub no_arc : Arc
no_arc = record { from = 0; to = 0; cap = 0 }

abbrev pub arc_at : List Arc → ℕ → Arc
arc_at arcs k = slice_index_or arcs k no_arc

-- the flow of the arcs that a test picks
abbrev pub flow_where : (Arc → Bool) → List Arc → List ℕ → ℕ
flow_where p [] flow = 0
flow_where p (a ∷ arcs) [] = 0
flow_where p (a ∷ arcs) (x ∷ flow) = cond (p a) x 0 + flow_where p arcs flow

-- the capacity of the arcs that a test picks
abbrev pub capacity_where : (Arc → Bool) → List Arc → ℕ
capacity_where p [] = 0
capacity_where p (a ∷ arcs) = cond (p a) a.cap 0 + capacity_where p arcs

-- the flow out of the nodes of a set
abbrev pub flow_out : (ℕ → Bool) → List Arc → List ℕ → ℕ
flow_out nodes arcs flow = flow_where (λ a. nodes a.from) arcs flow

-- the flow into the nodes of a set
abbrev pub flow_in : (ℕ → Bool) → List Arc → List ℕ → ℕ
flow_in nodes arcs flow = flow_where (λ a. nodes a.to) arcs flow

-- the capacity of the arcs that leave a set of nodes
abbrev pub capacity_leaving : (ℕ → Bool) → List Arc → ℕ
capacity_leaving nodes arcs = capacity_where (λ a. cond (nodes a.from) (not (nodes a.to)) false) arcs

-- one number for each arc, at most its capacity
pub record IsWithin (arcs : List Arc) (flow : List ℕ) : Type 0 where
  pub one_each : length flow ≡ length arcs
  pub below : (k : ℕ) → k < length arcs → slice_index flow k ≤ (arc_at arcs k).cap

-- as much flows out of each set of nodes as into it, but for a value that comes from the source and
-- goes to the sink
abbrev pub IsBalanced : List Arc → List ℕ → ℕ → Type 0
IsBalanced arcs flow value =
    (nodes : ℕ → Bool) → flow_out nodes arcs flow + cond (nodes 1) value 0 ≡ flow_in nodes arcs flow + cond (nodes 0) value 0

-- no capacity is above 2 ^ 112
abbrev pub HasSmallCapacities : List Arc → Type 0
HasSmallCapacities arcs = (k : ℕ) → k < length arcs → (arc_at arcs k).cap ≤ 2 ^ 112

-- both ends of each arc are nodes
abbrev pub HasEnds : ℕ → List Arc → Type 0
HasEnds nodes arcs = (k : ℕ) → k < length arcs → ((arc_at arcs k).from < nodes) × ((arc_at arcs k).to < nodes)

-- a set of nodes, as flags
abbrev pub in_set : List Bool → ℕ → Bool
in_set flags v = slice_index_or flags v false

-- as much flows out of each node as into it, but for the source and the sink
abbrev pub IsConserved : List Arc → List ℕ → Type 0
IsConserved arcs flow = (v : ℕ) → v ≢ 0 → v ≢ 1 → flow_out (λ w. w == v) arcs flow ≡ flow_in (λ w. w == v) arcs flow

-- a value leaves the source, less what enters it
abbrev pub HasValue : List Arc → List ℕ → ℕ → Type 0
HasValue arcs flow value = flow_out (λ w. w == 0) arcs flow ≡ flow_in (λ w. w == 0) arcs flow + value

-- a set of nodes is a cut: it has the source and not the sink
abbrev pub IsCut : (ℕ → Bool) → Type 0
IsCut nodes = (nodes 0 ≡ true) × (nodes 1 ≡ false)
