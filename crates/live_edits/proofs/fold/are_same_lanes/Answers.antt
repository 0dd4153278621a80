use Rattle.std.proofs.Common.{◌∙◌, refl, sym, arith}
use Rattle.meaning.specs.Lanes.{same_lane}
use Rattle.live_edits.specs.Folded.{same_lanes}
use Rattle.live_edits.proofs.JoiningLists.{IsOfElements, other-lengths, all-stop, all-on}
use Rattle.live_edits.proofs.fold.are_same_lanes.Goals as goal

by-lanes : IsOfElements same_lanes same_lane
by-lanes = record { none = refl; more = λ y ys. refl; less = λ x xs. refl; both = λ x xs y ys. refl }

pub returns-then-a-b : goal.returns-then-a-b
returns-then-a-b c = sym (other-lengths same_lanes same_lane by-lanes c.args.a.now c.args.b.now c.if-a-b.true)

pub returns-then-not-is_same_lane : goal.returns-then-not-is_same_lane
returns-then-not-is_same_lane c =
    sym (c.lanes.invariant ∙ all-stop same_lanes same_lane by-lanes c.args.a.now c.args.b.now c.lanes.k _ _ (omega arith) (omega arith) (sym c.is_same_lane.ensures ∙ c.if-not-is_same_lane.true))

pub lanes-preserved : goal.lanes-preserved
lanes-preserved c =
    c.lanes.invariant ∙ all-on same_lanes same_lane by-lanes c.args.a.now c.args.b.now c.lanes.k _ _ (omega arith) (omega arith) (sym c.is_same_lane.ensures ∙ c.if-not-is_same_lane.false)
