use Rattle.std.proofs.Common.{◌∙◌, ℕ, List, Bool, refl, sym, arith}
use Rattle.std.specs.Prelude.{slice_get}
use Rattle.live_edits.specs.Folded.{are_picked, is_number}
use Rattle.live_edits.proofs.JoiningLists.{IsOfElements, other-lengths, all-stop, all-on}
use Rattle.live_edits.proofs.fold.are_picked.Goals as goal

by-places : (outer : List ℕ) → IsOfElements (are_picked outer) (λ k l. is_number (slice_get outer k) l)
by-places outer = record { none = refl; more = λ y ys. refl; less = λ x xs. refl; both = λ x xs y ys. refl }

abbrev at : List ℕ → ℕ → ℕ → Bool
at outer k l = is_number (slice_get outer k) l

pub returns-then-inner-lanes : goal.returns-then-inner-lanes
returns-then-inner-lanes c = sym (other-lengths (are_picked c.args.outer.now) (at c.args.outer.now) (by-places c.args.outer.now) c.args.inner.now c.args.lanes.now c.if-inner-lanes.true)

pub returns-then-not-is_lane_at : goal.returns-then-not-is_lane_at
returns-then-not-is_lane_at c =
    sym (c.lanes.invariant ∙ all-stop (are_picked c.args.outer.now) (at c.args.outer.now) (by-places c.args.outer.now) c.args.inner.now c.args.lanes.now c.lanes.k _ _ (omega arith) (omega arith) (sym c.is_lane_at.ensures ∙ c.if-not-is_lane_at.true))

pub lanes-preserved : goal.lanes-preserved
lanes-preserved c =
    c.lanes.invariant ∙ all-on (are_picked c.args.outer.now) (at c.args.outer.now) (by-places c.args.outer.now) c.args.inner.now c.args.lanes.now c.lanes.k _ _ (omega arith) (omega arith) (sym c.is_lane_at.ensures ∙ c.if-not-is_lane_at.false)
