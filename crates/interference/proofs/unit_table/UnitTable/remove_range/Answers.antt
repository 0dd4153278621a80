use Rattle.std.proofs.Common.{◌≡◌, List, take, length, refl, ap, ◌∙◌, arith}
use Rattle.target_base.specs.declared.types.Unit.{Unit as UnitNumber}
use Rattle.target_base.specs.Registers.{units_of}
use Rattle.interference.specs.Listed.{range_lots}
use Rattle.interference.proofs.Lots.{thins-none, thins-same, thins-next, range-all}
use Rattle.interference.proofs.unit_table.UnitTable.remove_range.Goals as goal

pub units-init : goal.units-init
units-init c = record { place = refl; gone = thins-none c.args.live.now.table.order.slots c.args.v c.args.self.now }

pub units-preserved : goal.units-preserved
units-preserved c =
    let x = c.args.live.now.table in
    let us : List UnitNumber = c.units_at-u-items.result.now in
    let vs : List UnitNumber = units_of c.args.live.now.target c.args.p in
    let same : us ≡ vs = c.units_at-u-items.ensures ∙ ap (λ t. units_of t c.args.p) c.target.ensures in
    record {
      place = let a = c.units.invariant.place in omega (arith, a, c.saturating_add-k.ensures);
      gone = thins-next x c.args.v c.units.u-index c.units.k us vs _ c.lane_of.result c.args.self.now c.units.self c.remove_lane.new.self same c.units.invariant.place c.units-test.true c.lane_of.ensures c.units.invariant.gone c.remove_lane.ensures;
    }

pub returns : goal.returns
returns c =
    let x = c.args.live.now.table in
    let us : List UnitNumber = c.units_at-u-items.result.now in
    let vs : List UnitNumber = units_of c.args.live.now.target c.args.p in
    let same : us ≡ vs = c.units_at-u-items.ensures ∙ ap (λ t. units_of t c.args.p) c.target.ensures in
    let long : length us ≡ length vs = ap length same in
    thins-same x.order.slots c.args.v (range_lots x c.args.v 0 (take c.units.u-index vs)) (range_lots x c.args.v 0 vs) c.args.self.now c.units.self (range-all x c.args.v vs c.units.u-index (omega arith)) c.units.invariant.gone
