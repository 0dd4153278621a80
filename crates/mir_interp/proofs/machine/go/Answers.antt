use Rattle.std.proofs.Common.{◌≡◌, ◌+◌, ◌-◌, ◌<◌, ◌≤◌, suc, ap, arith, drop}
use Rattle.meaning.specs.Code.{runs}
use Rattle.mir_interp.specs.Decoded.{code_of_steps}
use Rattle.mir_interp.specs.Holds.{held_by}
use Rattle.mir_interp.specs.Running.{onward}
use Rattle.mir_interp.proofs.Going.{stops_there, goes_there, all_done}
use Rattle.mir_interp.proofs.Stepping.{continues_further, continues_still}
use Rattle.mir_interp.proofs.machine.go.Goals as goal

pub returns-in_default : goal.returns-in_default
returns-in_default g c = λ m env h o r room.
    let inv = c.loop-i.invariant m env h o r room in
    let code = code_of_steps c.args.steps.now in
    let j = c.args.n - (c.loop-i.i + 1) in
    let e : c.args.n - c.loop-i.i ≡ suc (c.args.n - (c.loop-i.i + 1)) = omega arith in
    continues_further _ _ _ _ _ _ inv.3 (continues_still _ _ _ (stops_there env (code_of_steps c.args.steps.now) (drop c.loop-i.at (code_of_steps c.args.steps.now)) (held_by c.loop-i.machine.store) (held_by c.advance.new.store) inv.0 (c.args.n - c.loop-i.i) (c.args.n - (c.loop-i.i + 1)) c.in_ok-advanced.advanced e (c.in_ok-advanced.ensures m env h (code_of_steps c.args.steps.now) (runs env (code_of_steps c.args.steps.now) (c.args.n - (c.loop-i.i + 1))) inv.0) c.in_default.is))

pub returns-in-Err : goal.returns-in-Err
returns-in-Err g c = λ m env h o r room.
    let inv = c.loop-i.invariant m env h o r room in
    let e : c.args.n - c.loop-i.i ≡ suc (c.args.n - (c.loop-i.i + 1)) = omega arith in
    let few : inv.0.calls < m = omega (arith, inv.2, room) in
    let s = c.in_ok-stepped.ensures.did m env h inv.0 inv.1 few (runs env (code_of_steps c.args.steps.now) (c.args.n - (c.loop-i.i + 1))) in
    continues_further _ _ _ _ _ _ inv.3 (continues_further _ _ _ _ _ _ (continues_still _ _ _ (goes_there env (code_of_steps c.args.steps.now) (drop c.loop-i.at (code_of_steps c.args.steps.now)) (held_by c.loop-i.machine.store) (held_by c.advance.new.store) inv.0 (c.args.n - c.loop-i.i) (c.args.n - (c.loop-i.i + 1)) c.in-Some.here c.in_ok-advanced.advanced e (c.in_ok-advanced.ensures m env h (code_of_steps c.args.steps.now) (runs env (code_of_steps c.args.steps.now) (c.args.n - (c.loop-i.i + 1))) inv.0) c.in-Some.is))
    (continues_further _ _ _ _ _ _ s.continues (continues_still _ _ _ (ap (λ x. onward (code_of_steps c.args.steps.now) (runs env (code_of_steps c.args.steps.now) (c.args.n - (c.loop-i.i + 1))) x (held_by c.step.new.machine.store) s.outside) c.in-Err.is))))

pub loop-i-preserved : goal.loop-i-preserved
loop-i-preserved g c = λ m env h o r room.
    let inv = c.loop-i.invariant m env h o r room in
    let e : c.args.n - c.loop-i.i ≡ suc (c.args.n - (c.loop-i.i + 1)) = omega arith in
    let few : inv.0.calls < m = omega (arith, inv.2, room) in
    let s = c.in_ok-stepped.ensures.did m env h inv.0 inv.1 few (runs env (code_of_steps c.args.steps.now) (c.args.n - (c.loop-i.i + 1))) in
    let more : s.outside.calls ≤ o.calls + (c.loop-i.i + 1) = omega (arith, inv.2, inv.1.calls, s.remembers.calls, c.in_ok-stepped.ensures.calls) in (
      s.outside,
      s.remembers,
      more,
      continues_further _ _ _ _ _ _ inv.3 (continues_further _ _ _ _ _ _ (continues_still _ _ _ (goes_there env (code_of_steps c.args.steps.now) (drop c.loop-i.at (code_of_steps c.args.steps.now)) (held_by c.loop-i.machine.store) (held_by c.advance.new.store) inv.0 (c.args.n - c.loop-i.i) (c.args.n - (c.loop-i.i + 1)) c.in-Some.here c.in_ok-advanced.advanced e (c.in_ok-advanced.ensures m env h (code_of_steps c.args.steps.now) (runs env (code_of_steps c.args.steps.now) (c.args.n - (c.loop-i.i + 1))) inv.0) c.in-Some.is))
          (continues_further _ _ _ _ _ _ s.continues (continues_still _ _ _ (ap (λ x. onward (code_of_steps c.args.steps.now) (runs env (code_of_steps c.args.steps.now) (c.args.n - (c.loop-i.i + 1))) x (held_by c.step.new.machine.store) s.outside) c.in-Ok.is)))),
    )

pub returns : goal.returns
returns g c = λ m env h o r room.
    let inv = c.loop-i.invariant m env h o r room in
    let e : c.args.n - c.loop-i.i ≡ 0 = omega arith in
    continues_further _ _ _ _ _ _ inv.3 (continues_still _ _ _ (all_done env (code_of_steps c.args.steps.now) (drop c.loop-i.at (code_of_steps c.args.steps.now)) (held_by c.loop-i.machine.store) inv.0 (c.args.n - c.loop-i.i) e))
