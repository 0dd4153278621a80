use Rattle.std.proofs.Common.{◌≡◌, ◌≢◌, ◌<◌, ◌≤◌, ◌⊎◌, ◌+◌, inl, inr, ℕ, subst, arith, refl}
use Rattle.std.specs.Prelude.{slice_get}
use Rattle.std.proofs.lemmas.Bool.{cases_lt}
use Rattle.live_lanes.specs.declared.table.Table.{Table}
use Rattle.live_lanes.specs.Extents.{lanes_count}
use Rattle.live_lanes.specs.Spread.{LaneHasPoints}
use Rattle.live_lanes.proofs.Spread.{lane-has, points-lane}
use Rattle.live_lanes.proofs.live.LiveFunc.is_in_another.Goals as goal

none-more : (x : Table) (v k block : ℕ) → ((j b : ℕ) → j < k → (b ≢ block) → LaneHasPoints x v j b → ⊥) → ((b : ℕ) → (b ≢ block) → LaneHasPoints x v k b → ⊥) → (j b : ℕ) → j < k + 1 → (b ≢ block) → LaneHasPoints x v j b → ⊥
none-more x v k block before own j b lt ne h = go (cases_lt j k)
  where
    go : (j < k) ⊎ (k ≤ j) → ⊥
    go (inl l) = before j b l ne h
    go (inr l) = let e : j ≡ k = omega arith in own b ne (subst (λ i. LaneHasPoints x v i b) e h)

pub returns-then-is_lane_in_another : goal.returns-then-is_lane_in_another
returns-then-is_lane_in_another c =
    let x = c.args.self.now.table in
    let z = c.is_lane_in_another.ensures.0 c.if-is_lane_in_another.true in
    (λ t. (z.0, z.1, lane-has x c.args.v c.lanes.k z.0 z.2), λ t. refl)

pub lanes-preserved : goal.lanes-preserved
lanes-preserved c =
    none-more c.args.self.now.table c.args.v c.lanes.k c.args.block c.lanes.invariant (λ b ne h. absurd (let z = c.is_lane_in_another.ensures.1 (b, ne, h) in let y = c.if-is_lane_in_another.false in cc))

pub returns : goal.returns
returns c =
    let x = c.args.self.now.table in
    let v = c.args.v in
    let all : lanes_count (slice_get x.lanes.ranges.items v) ≤ c.lanes.k = omega (arith, c.lane_count-k-end.ensures, c.lanes-test.false) in
    (λ t. absurd (cc), λ (b, ne, h). let z = points-lane x v b c.lanes.k all h in absurd (c.lanes.invariant z.0 b z.1 ne z.2))
