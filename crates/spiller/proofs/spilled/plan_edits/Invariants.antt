use Rattle.std.proofs.Common.{◌≡◌, ◌<◌, drop, length}
use Rattle.live_lanes.specs.Touching.{AreTouched}
use Rattle.spiller.specs.Marks.{MayPlan, all_marks, with_marks}
use Rattle.spiller.specs.Reaching.{Facts}
use Rattle.spiller.specs.Views.{planned, spilling_of}
use Rattle.spiller.specs.WholePlan.{whole_plan}
use Rattle.spiller.proofs.spilled.plan_edits.Given as goal

abbrev pub invariant-touched : goal.invariant-touched
invariant-touched l =
    (facts : Facts) → MayPlan l.view l.remat facts → length l.view.live.now.func.classes < 4294967296 → AreTouched l.view.live.now.table l.view.v l.touched
    → with_marks (spilling_of l.view l.view.slot facts) l.ended (drop l.id-index (all_marks l.view.v l.view.live.now.func.blocks)) (planned l.plan) ≡ whole_plan (spilling_of l.view l.view.slot facts)
