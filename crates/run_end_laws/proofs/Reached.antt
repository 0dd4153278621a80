-- The steps of an allocation are those of a run, but for registers.
use Rattle.target_base.specs.declared.types.Target.{Target}
use Rattle.mir_func.specs.Value.{Function}
use Rattle.spiller.specs.Slots.{Slots}
use Rattle.rewriter.specs.Physical.{Assignment}
use Rattle.sibling_laws.specs.Steps.{IsReachedFrom}
use Rattle.sibling_laws.specs.Steps as runs
use Rattle.run_end_laws.specs.Allocating.{AllocatingIsReached, IsAllocating, IsAllocationStep, assigns, spills, splits, start, step, unassigns}

further : {t : Target} {f g h : Function} {s r q : Slots} {rs new : Assignment} → IsReachedFrom t f s g r → IsAllocationStep t g r rs h q new → IsReachedFrom t f s h q
further on (assigns v x free c) = on
further on (unassigns v c) = on
further on (splits v ms left meet z e) = runs.step on (runs.splits v ms left.inside meet z e)
further on (spills v made left z) = runs.step on (runs.spills v made left.inside z)

reached : {t : Target} {f : Function} {s : Slots} {g : Function} {r : Slots} {rs : Assignment} → IsAllocating t f s g r rs → IsReachedFrom t f s g r
reached (start none) = runs.start
reached (step on z) = further (reached on) z

pub allocating-is-reached : AllocatingIsReached
allocating-is-reached t f g s r rs on = reached on
