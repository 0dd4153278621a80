use Rattle.std.proofs.Common.{drop}
use Rattle.cut_place.proofs.Facts.{AugmentFacts}
use Rattle.cut_place.proofs.paths.augment.Given as goal

abbrev pub invariant-loop-step : goal.invariant-loop-step
invariant-loop-step l = AugmentFacts l.arcs l.initial.flow l.flow l.amount (drop l.step-index l.steps)
