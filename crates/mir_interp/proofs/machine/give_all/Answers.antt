use Rattle.std.proofs.Common.{◌≡◌, ◌∙◌, sym, ap, arith, drop, [], drop_of_length-le}
use Rattle.std.specs.Prelude.{flat_map}
use Rattle.target_base.specs.Numbers.{reg_number}
use Rattle.target_base.specs.Registers.{units_of}
use Rattle.mir_interp.specs.Holds.{held_by}
use Rattle.mir_interp.specs.Running.{given_units}
use Rattle.mir_interp.proofs.Writing.{given_flat_next, given_none}
use Rattle.mir_interp.proofs.machine.give_all.Goals as goal

pub loop-r-preserved : goal.loop-r-preserved
loop-r-preserved g c = λ symbols m env h a.
    given_flat_next env c.args.t.now c.args.regs.now (held_by c.args.store.now) (held_by c.loop-r.store) (held_by c.give.new.store) c.loop-r.r-index (reg_number 0) c.units_at.result.now (omega arith) c.units_at.ensures (c.in_ok-give.ensures symbols m env h) (c.loop-r.invariant symbols m env h) a

pub returns : goal.returns
returns g c = λ symbols m env h a.
    let none : drop c.loop-r.r-index c.args.regs.now ≡ [] = drop_of_length-le c.args.regs.now (omega arith) in
    sym (given_none env c.args.t.now.units (held_by c.loop-r.store) a) ∙ (ap (λ t. given_units env c.args.t.now.units (flat_map (units_of c.args.t.now) t) (held_by c.loop-r.store) a) (sym none) ∙ c.loop-r.invariant symbols m env h a)
