-- Arcs that are added behind others.
use Rattle.std.proofs.Common.{◌≡◌, ℕ, ◌+◌, ◌<◌, ◌≤◌, ◌^◌, zero, suc, List, [], ◌∷◌, ◌++◌, length, get_or, arith}
use Rattle.cut_place.specs.declared.net.Arc.{Arc}
use Rattle.cut_place.specs.Flows.{arc_at, HasEnds, HasSmallCapacities}

pub ends_more : (nodes : ℕ) (arcs : List Arc) (arc : Arc) → HasEnds nodes arcs → arc.from < nodes → arc.to < nodes → HasEnds nodes (arcs ++ arc ∷ [])
ends_more nodes [] arc f from to zero h = (from, to)
ends_more nodes [] arc f from to (suc k) h = absurd (omega arith)
ends_more nodes (a ∷ arcs) arc f from to zero h = f 0 (omega arith)
ends_more nodes (a ∷ arcs) arc f from to (suc k) h = ends_more nodes arcs arc (λ j lt. f (suc j) (omega arith)) from to k (omega arith)

pub small_more : (arcs : List Arc) (arc : Arc) → HasSmallCapacities arcs → arc.cap ≤ 2 ^ 112 → HasSmallCapacities (arcs ++ arc ∷ [])
small_more [] arc f cap zero h = cap
small_more [] arc f cap (suc k) h = absurd (omega arith)
small_more (a ∷ arcs) arc f cap zero h = f 0 (omega arith)
small_more (a ∷ arcs) arc f cap (suc k) h = small_more arcs arc (λ j lt. f (suc j) (omega arith)) cap k (omega arith)
