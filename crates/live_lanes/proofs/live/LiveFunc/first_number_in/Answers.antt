use Rattle.std.proofs.Common.{◌≡◌, ◌≤◌, subst, refl, None, arith}
use Rattle.std.specs.Prelude.{slice_get}
use Rattle.live_lanes.specs.Extents.{lanes_count}
use Rattle.live_lanes.specs.Spread.{BeginsAt, IsFirst, LaneBeginsAt, number_at, number_before}
use Rattle.live_lanes.proofs.LayoutNumbers.{before-all, begins-lane, lane-begins}
use Rattle.live_lanes.proofs.Spread.{Below, first-same, more-first}
use Rattle.live_lanes.proofs.live.LiveFunc.first_number_in.Goals as goal

pub lanes-preserved : goal.lanes-preserved
lanes-preserved c = λ o finds within few.
    let x = c.args.self.now.table in
    let bs = c.args.self.now.func.blocks in
    let start : c.number_of_block-start.result ≡ number_before bs c.args.block = c.number_of_block-start.ensures (let z = before-all bs c.args.block in omega (arith, z, few)) in
    more-first (λ j n. LaneBeginsAt x bs c.args.v j c.args.block n) c.lanes.k c.lanes.first c.first_number_of.result c.lesser_number-first.result c.lesser_number-first.ensures (c.lanes.invariant o finds within few) (c.first_number_of.ensures o finds within few start)

pub returns-in-Some : goal.returns-in-Some
returns-in-Some c = λ o finds within few has.
    let x = c.args.self.now.table in
    let bs = c.args.self.now.func.blocks in
    let v = c.args.v in
    let p = c.args.block in
    let all : lanes_count (slice_get x.lanes.ranges.items v) ≤ c.lanes.k = omega (arith, c.lane_count-k-end.ensures, c.lanes-test.false) in
    subst (IsFirst (BeginsAt x bs v p)) c.in-Some.is
    (first-same (Below (λ j m. LaneBeginsAt x bs v j p m) c.lanes.k) (BeginsAt x bs v p) (λ n z. lane-begins x bs v p n z.0 z.2) (λ n z. begins-lane x bs v p n c.lanes.k all z) c.lanes.first (c.lanes.invariant o finds within few))

pub returns-in-None : goal.returns-in-None
returns-in-None c = λ o finds within few has.
    let x = c.args.self.now.table in
    let bs = c.args.self.now.func.blocks in
    let v = c.args.v in
    let p = c.args.block in
    let all : lanes_count (slice_get x.lanes.ranges.items v) ≤ c.lanes.k = omega (arith, c.lane_count-k-end.ensures, c.lanes-test.false) in
    let none : IsFirst (Below (λ j m. LaneBeginsAt x bs v j p m) c.lanes.k) None = subst (IsFirst (Below (λ j m. LaneBeginsAt x bs v j p m) c.lanes.k)) c.in-None.is (c.lanes.invariant o finds within few) in
    absurd (none (number_at bs p has.0.start) (begins-lane x bs v p (number_at bs p has.0.start) c.lanes.k all (has.0, has.1, refl)))
