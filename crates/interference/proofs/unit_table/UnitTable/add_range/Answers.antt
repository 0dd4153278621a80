use Rattle.std.proofs.Common.{◌≡◌, List, length, refl, ap, ◌∙◌, arith}
use Rattle.target_base.specs.declared.types.Unit.{Unit as UnitNumber}
use Rattle.target_base.specs.Registers.{units_of}
use Rattle.interference.proofs.Ranges.{fills-next, begins-next, fills-no-lanes, fills-lanes}
use Rattle.interference.proofs.Refused.{on-err}
use Rattle.interference.proofs.unit_table.UnitTable.add_range.Goals as goal

pub units-init : goal.units-init
units-init c = record { place = refl; filled = λ room. fills-no-lanes c.args.live.now.table c.args.v (units_of c.args.live.now.target c.args.p) c.args.self.now room }

pub units-preserved : goal.units-preserved
units-preserved c =
    let x = c.args.live.now.table in
    let us : List UnitNumber = c.units_at-u-items.result.now in
    let vs : List UnitNumber = units_of c.args.live.now.target c.args.p in
    let same : us ≡ vs = c.units_at-u-items.ensures ∙ ap (λ t. units_of t c.args.p) c.target.ensures in
    record {
      place = let a = c.units.invariant.place in omega (arith, a, c.saturating_add-k.ensures);
      filled = λ room. fills-next x c.args.v c.units.u-index c.units.k us vs _ c.lane_of.result c.args.self.now c.units.self c.add_lane.new.self same c.units.invariant.place c.units-test.true c.lane_of.ensures room (c.units.invariant.filled room) c.in_ok-add_lane.ensures.ok;
    }

pub returns-in_err-add_lane-clause-err : goal.returns-in_err-add_lane-clause-err
returns-in_err-add_lane-clause-err c = λ room.
    let x = c.args.live.now.table in
    let us : List UnitNumber = c.units_at-u-items.result.now in
    let vs : List UnitNumber = units_of c.args.live.now.target c.args.p in
    let same : us ≡ vs = c.units_at-u-items.ensures ∙ ap (λ t. units_of t c.args.p) c.target.ensures in
    on-err c.from_residual.result (begins-next x c.args.v c.units.u-index c.units.k us vs _ c.lane_of.result c.args.self.now c.units.self c.add_lane.new.self same c.units.invariant.place c.units-test.true c.lane_of.ensures room (c.units.invariant.filled room) c.in_err-add_lane.ensures.err)

pub returns-clause-ok : goal.returns-clause-ok
returns-clause-ok c = λ room.
    let x = c.args.live.now.table in
    let us : List UnitNumber = c.units_at-u-items.result.now in
    let vs : List UnitNumber = units_of c.args.live.now.target c.args.p in
    let same : us ≡ vs = c.units_at-u-items.ensures ∙ ap (λ t. units_of t c.args.p) c.target.ensures in
    let long : length us ≡ length vs = ap length same in
    fills-lanes x c.args.v vs c.units.u-index c.args.self.now c.units.self (omega arith) (c.units.invariant.filled room)
