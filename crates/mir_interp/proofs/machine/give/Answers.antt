use Rattle.std.proofs.Common.{◌≡◌, ◌∙◌, sym, ap, arith, drop, [], drop_of_length-le}
use Rattle.target_base.specs.Numbers.{unit_number}
use Rattle.mir_interp.specs.Holds.{held_by}
use Rattle.mir_interp.specs.Running.{given_units}
use Rattle.mir_interp.proofs.Writing.{given_next, given_none}
use Rattle.mir_interp.proofs.machine.give.Goals as goal

pub loop-u-preserved : goal.loop-u-preserved
loop-u-preserved g c = λ symbols m env h a.
    given_next env c.args.t.now.units c.args.units.now (held_by c.args.store.now) (held_by c.loop-u.store) (held_by c.set.new.self) c.loop-u.u-index (unit_number 0) c.held_at_start-held.result (omega arith) (c.held_at_start-held.ensures symbols m env h) c.in_ok-set.ensures (c.loop-u.invariant symbols m env h) a

pub returns : goal.returns
returns g c = λ symbols m env h a.
    let none : drop c.loop-u.u-index c.args.units.now ≡ [] = drop_of_length-le c.args.units.now (omega arith) in
    sym (given_none env c.args.t.now.units (held_by c.loop-u.store) a) ∙ (ap (λ t. given_units env c.args.t.now.units t (held_by c.loop-u.store) a) (sym none) ∙ c.loop-u.invariant symbols m env h a)
