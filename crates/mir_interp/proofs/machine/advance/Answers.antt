use Rattle.std.proofs.Common.{◌+◌, suc, drop, arith, add-one}
use Rattle.meaning.specs.Code.{walk}
use Rattle.mir_interp.specs.Decoded.{code_of_steps}
use Rattle.mir_interp.specs.Holds.{held_by}
use Rattle.mir_interp.proofs.Walking.{goes_on, sticks, stands_there, all_passed}
use Rattle.mir_interp.proofs.machine.advance.Goals as goal

pub returns-in-Stuck : goal.returns-in-Stuck
returns-in-Stuck g c = λ m env h code next o.
    sticks env code next o c.args.steps.now c.loop-k.k c.index-steps-k.result c.in_ok-passed.passed (held_by c.loop-k.store) (held_by c.pass.new.store) (walk env code next (drop c.args.at (code_of_steps c.args.steps.now)) (held_by c.args.store.now) o) (omega arith) c.index-steps-k.is c.in-Stuck.is (c.in_ok-passed.ensures m env h code next (drop (suc c.loop-k.k) (code_of_steps c.args.steps.now)) o) (c.loop-k.invariant m env h code next o)

pub returns-in-Counted : goal.returns-in-Counted
returns-in-Counted g c = λ m env h code next o.
    stands_there env code next o c.args.steps.now c.loop-k.k c.index-steps-k.result c.in_ok-passed.passed (held_by c.loop-k.store) (held_by c.pass.new.store) (walk env code next (drop c.args.at (code_of_steps c.args.steps.now)) (held_by c.args.store.now) o) (omega arith) c.index-steps-k.is c.in-Counted.is (c.in_ok-passed.ensures m env h code next (drop (suc c.loop-k.k) (code_of_steps c.args.steps.now)) o) (c.loop-k.invariant m env h code next o)

pub loop-k-preserved : goal.loop-k-preserved
loop-k-preserved g c = λ m env h code next o.
    goes_on env code next o c.args.steps.now c.loop-k.k (c.loop-k.k + 1) c.index-steps-k.result c.in_ok-passed.passed (held_by c.loop-k.store) (held_by c.pass.new.store) (walk env code next (drop c.args.at (code_of_steps c.args.steps.now)) (held_by c.args.store.now) o) (omega arith) c.index-steps-k.is (add-one c.loop-k.k) c.in-On.is (c.in_ok-passed.ensures m env h code next (drop (suc c.loop-k.k) (code_of_steps c.args.steps.now)) o) (c.loop-k.invariant m env h code next o)

pub returns : goal.returns
returns g c = λ m env h code next o.
    all_passed env code next o c.args.steps.now c.loop-k.k (held_by c.loop-k.store) (walk env code next (drop c.args.at (code_of_steps c.args.steps.now)) (held_by c.args.store.now) o) (omega arith) (c.loop-k.invariant m env h code next o)
