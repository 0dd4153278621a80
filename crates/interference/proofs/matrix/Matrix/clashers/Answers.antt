use Rattle.std.proofs.Common.{◌≡◌, ◌<◌, ◌+◌, ◌*◌, List, length, drop, sym, ap, ◌∙◌, subst, arith}
use Rattle.target_base.specs.declared.types.Unit.{Unit as UnitNumber}
use Rattle.target_base.specs.Registers.{units_of}
use Rattle.interference.specs.Clashes.{Points, is_fixed_at, is_fixed, is_in_way, range_points, clash_at}
use Rattle.interference.specs.declared.matrix.Clash.TheVariants as clashes
use Rattle.interference.specs.Marked.{is_marked}
use Rattle.interference.proofs.Points.{unit-next, units-end, step-none, step-end, step-marked, end-marked, from-not}
use Rattle.interference.proofs.matrix.Matrix.clashers.Goals as goal
use Rattle.interference.proofs.Clashing.{clash-is}

pub units-preserved : goal.units-preserved
units-preserved c =
    let m = c.args.self.now in
    let x = m.live.table in
    let k = c.units.u-index in
    let us : List UnitNumber = c.units_at-u-items.result.now in
    let vs : List UnitNumber = units_of m.live.target c.args.p in
    let same : us ≡ vs = c.units_at-u-items.ensures ∙ ap (λ t. units_of t c.args.p) c.target.ensures in
    let long : length us ≡ length vs = ap length same in
    let rest : List Points = range_points x c.args.v k (drop k vs) in
    let more : List Points = range_points x c.args.v (k + 1) (drop (k + 1) vs) in
    record {
      place = let a = c.units.invariant.place in omega (arith, a, c.saturating_add-k.ensures);
      room = let a = c.units.invariant.room in omega (arith, a, c.mark_lane.ensures.room);
      fixed = λ ordered.
          step-none (is_fixed_at m) rest _ more (is_fixed m c.args.v c.args.p) (unit-next x c.args.v k c.units.k us vs _ same c.units.invariant.place c.units-test.true)
          (from-not _ (sym (c.mark_lane.ensures.fixed ordered) ∙ c.if-not-mark_lane.false)) (c.units.invariant.fixed ordered);
      marked = λ ordered n low.
          let was : n < length c.units.marks.words.items * 64 = subst (λ y. n < y * 64) c.mark_lane.ensures.room low in
          step-marked m c.args.v n rest _ more (is_marked c.units.marks.words.items n) (is_marked c.mark_lane.new.marks.words.items n) (is_in_way m c.args.v c.args.p n)
          (unit-next x c.args.v k c.units.k us vs _ same c.units.invariant.place c.units-test.true) (c.mark_lane.ensures.marked ordered c.if-not-mark_lane.false n was) (c.units.invariant.marked ordered n was);
    }

pub returns : goal.returns
returns c = λ ordered.
    let m = c.args.self.now in
    let x = m.live.table in
    let k = c.units.u-index in
    let us : List UnitNumber = c.units_at-u-items.result.now in
    let vs : List UnitNumber = units_of m.live.target c.args.p in
    let same : us ≡ vs = c.units_at-u-items.ensures ∙ ap (λ t. units_of t c.args.p) c.target.ensures in
    let long : length us ≡ length vs = ap length same in
    let rest : List Points = range_points x c.args.v k (drop k vs) in
    let end = units-end x c.args.v k vs (omega arith) in
    subst (λ ns. clashes.Ranges ns ≡ clash_at m c.args.v c.args.p) (sym c.from_vec.ensures)
    (clash-is m c.args.v c.args.p c.units.marks.words.items c.in_ok-numbers.field-0.items ordered c.units.invariant.room
    (step-end (is_fixed_at m) rest (is_fixed m c.args.v c.args.p) end (c.units.invariant.fixed ordered))
    (λ w low. end-marked m c.args.v w rest (is_marked c.units.marks.words.items w) (is_in_way m c.args.v c.args.p w) end (c.units.invariant.marked ordered w low)) c.in_ok-numbers.ensures)
