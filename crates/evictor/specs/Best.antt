-- The better of two.
use Rattle.std.specs.Prelude.{Bool, cond, Option, Some, None}

-- the better of an element and the best one before it, where there was one
abbrev pub better : {X : Type 0} → (X → X → Bool) → X → Option X → Option X
better beats x None = Some x
better beats x (Some y) = cond (beats x y) (Some x) (Some y)

-- the same of an element that may be missing
abbrev pub best_with : {X : Type 0} → (X → X → Bool) → Option X → Option X → Option X
best_with beats None best = best
best_with beats (Some x) best = better beats x best
