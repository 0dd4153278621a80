use Rattle.std.proofs.Common.{◌≡◌, ◌+◌, List, length, drop, sym, ap, ◌∙◌, arith}
use Rattle.target_base.specs.declared.types.Unit.{Unit as UnitNumber}
use Rattle.target_base.specs.Registers.{units_of}
use Rattle.interference.specs.Clashes.{Points, are_taken, range_points}
use Rattle.interference.proofs.Points.{unit-next, units-end, step-way, clear-way, clear-none}
use Rattle.interference.proofs.matrix.Matrix.some_clasher.Goals as goal

pub returns-in-Some : goal.returns-in-Some
returns-in-Some c = λ ordered.
    let m = c.args.self.now in
    let x = m.live.table in
    let k = c.units.u-index in
    let us : List UnitNumber = c.units_at-u-items.result.now in
    let vs : List UnitNumber = units_of m.live.target c.args.p in
    let same : us ≡ vs = c.units_at-u-items.ensures ∙ ap (λ t. units_of t c.args.p) c.target.ensures in
    let rest : List Points = range_points x c.args.v k (drop k vs) in
    let more : List Points = range_points x c.args.v (k + 1) (drop (k + 1) vs) in
    let n = c.in-Some.w in
    sym (c.units.invariant.rest ordered n) ∙ step-way m c.args.v n rest _ more (unit-next x c.args.v k c.units.k us vs _ same c.units.invariant.place c.units-test.true) (c.in-Some.ensures ordered)

pub units-preserved : goal.units-preserved
units-preserved c =
    let m = c.args.self.now in
    let x = m.live.table in
    let k = c.units.u-index in
    let us : List UnitNumber = c.units_at-u-items.result.now in
    let vs : List UnitNumber = units_of m.live.target c.args.p in
    let same : us ≡ vs = c.units_at-u-items.ensures ∙ ap (λ t. units_of t c.args.p) c.target.ensures in
    let long : length us ≡ length vs = ap length same in
    let rest : List Points = range_points x c.args.v k (drop k vs) in
    let more : List Points = range_points x c.args.v (k + 1) (drop (k + 1) vs) in
    record {
      place = let a = c.units.invariant.place in omega (arith, a, c.saturating_add-k.ensures);
      rest = λ ordered n.
          sym (clear-way m c.args.v n rest _ more (unit-next x c.args.v k c.units.k us vs _ same c.units.invariant.place c.units-test.true) (c.in_default.ensures ordered n)) ∙ c.units.invariant.rest ordered n;
    }

pub returns : goal.returns
returns c = λ ordered n.
    let m = c.args.self.now in
    let x = m.live.table in
    let k = c.units.u-index in
    let us : List UnitNumber = c.units_at-u-items.result.now in
    let vs : List UnitNumber = units_of m.live.target c.args.p in
    let same : us ≡ vs = c.units_at-u-items.ensures ∙ ap (λ t. units_of t c.args.p) c.target.ensures in
    let long : length us ≡ length vs = ap length same in
    sym (c.units.invariant.rest ordered n) ∙ ap (λ ps. are_taken m c.args.v ps n) (units-end x c.args.v k vs (omega arith)) ∙ clear-none m c.args.v n
