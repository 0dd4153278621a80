use Rattle.std.proofs.Common.{◌≡◌, ◌+◌, List, length, drop, sym, ap, ◌∙◌, arith}
use Rattle.std.specs.Prelude.{not}
use Rattle.std.specs.List.{list_any}
use Rattle.target_base.specs.declared.types.Unit.{Unit as UnitNumber}
use Rattle.target_base.specs.Registers.{units_of}
use Rattle.interference.specs.Clashes.{Points, is_held_at, range_points, points_in}
use Rattle.interference.proofs.Points.{unit-next, units-end, step-found, step-end, free-is}
use Rattle.interference.proofs.matrix.Matrix.free.Goals as goal

pub returns-then-is_lane_met : goal.returns-then-is_lane_met
returns-then-is_lane_met c = λ ordered.
    let m = c.args.self.now in
    let x = m.live.table in
    let k = c.units.u-index in
    let us : List UnitNumber = c.units_at-u-items.result.now in
    let vs : List UnitNumber = units_of m.live.target c.args.p in
    let same : us ≡ vs = c.units_at-u-items.ensures ∙ ap (λ t. units_of t c.args.p) c.target.ensures in
    let long : length us ≡ length vs = ap length same in
    let rest : List Points = range_points x c.args.v k (drop k vs) in
    let more : List Points = range_points x c.args.v (k + 1) (drop (k + 1) vs) in
    ap not (step-found (is_held_at m c.args.v) rest _ more (list_any (is_held_at m c.args.v) (points_in m c.args.v c.args.p)) (unit-next x c.args.v k c.units.k us vs _ same c.units.invariant.place c.units-test.true) (sym (c.is_lane_met.ensures ordered) ∙ c.if-is_lane_met.true) (c.units.invariant.rest ordered))
    ∙ free-is m c.args.v ordered c.args.p

pub returns : goal.returns
returns c = λ ordered.
    let m = c.args.self.now in
    let x = m.live.table in
    let k = c.units.u-index in
    let us : List UnitNumber = c.units_at-u-items.result.now in
    let vs : List UnitNumber = units_of m.live.target c.args.p in
    let same : us ≡ vs = c.units_at-u-items.ensures ∙ ap (λ t. units_of t c.args.p) c.target.ensures in
    let long : length us ≡ length vs = ap length same in
    let rest : List Points = range_points x c.args.v k (drop k vs) in
    ap not (step-end (is_held_at m c.args.v) rest (list_any (is_held_at m c.args.v) (points_in m c.args.v c.args.p)) (units-end x c.args.v k vs (omega arith)) (c.units.invariant.rest ordered))
    ∙ free-is m c.args.v ordered c.args.p
