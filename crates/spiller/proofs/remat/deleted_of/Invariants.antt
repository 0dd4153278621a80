use Rattle.std.proofs.Common.{◌≡◌, ℕ, Bool, filter, map, take}
use Rattle.mir_meaning.specs.Paths.{has}
use Rattle.live_lanes.specs.Touching.{FindsInstrs}
use Rattle.spiller.specs.declared.reaching.Definition.{Definition}
use Rattle.spiller.specs.Listed.{TestsNeedless}
use Rattle.spiller.specs.Reaching.{Facts}
use Rattle.spiller.specs.Views.{spilling_of}
use Rattle.spiller.proofs.remat.deleted_of.Given as goal

abbrev pub invariant-definitions : goal.invariant-definitions
invariant-definitions l =
    (slot : ℕ) (facts : Facts) (test : ℕ → Bool) → FindsInstrs l.view.live.now.table l.view.live.now.func.blocks → TestsNeedless (spilling_of l.view slot facts) l.definitions l.readings test
    → (n : ℕ) → has n l.deleted.keys ≡ has n (filter test (map (λ (d : Definition). d.id) (take l.definition-index l.definitions)))
