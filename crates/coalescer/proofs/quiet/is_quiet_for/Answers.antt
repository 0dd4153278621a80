use Rattle.std.proofs.Common.{◌≡◌, ◌∙◌, true, false, inl, inr, refl, sym, arith}
use Rattle.std.specs.Prelude.{slice_get}
use Rattle.std.proofs.lemmas.Bool.{cases_lt}
use Rattle.coalescer.specs.Asked.{IsQuietLane}
use Rattle.coalescer.proofs.Unseen.{no-lane}
use Rattle.coalescer.proofs.quiet.is_quiet_for.Goals as goal
use borrow.Author.Count.{below_more}

pub returns-then-not-is_quiet_lane : goal.returns-then-not-is_quiet_lane
returns-then-not-is_quiet_lane c = λ may. (
  (λ e. absurd (cc)),
  (λ h. let y = (c.is_quiet_lane.ensures may).1 (h c.lanes.k) in absurd (let z : true ≡ false = sym y ∙ c.if-not-is_quiet_lane.true in cc)),
)

pub lanes-preserved : goal.lanes-preserved
lanes-preserved c = λ may. below_more (λ i. IsQuietLane c.args.target.now c.args.live.now c.args.join c.args.v i) c.lanes.k (c.lanes.invariant may) ((c.is_quiet_lane.ensures may).0 c.if-not-is_quiet_lane.false)

pub returns : goal.returns
returns c = λ may. (
  (λ e i. elim (cases_lt i c.lanes.k) as (λ _. IsQuietLane c.args.target.now c.args.live.now c.args.join c.args.v i) [
    | inl h ↦ c.lanes.invariant may i h
    | inr h ↦ λ b g n q. absurd (no-lane (slice_get c.args.live.now.table.lanes.ranges.items c.args.v) i n (let l = c.lane_count-k-end.ensures in omega arith) q)
  ]),
  (λ h. refl),
)
