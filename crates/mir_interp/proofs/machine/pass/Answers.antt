use Rattle.std.proofs.Common.{◌∙◌, ap}
use Rattle.mir_interp.specs.declared.steps.DecodedStep.TheVariants as steps
use Rattle.mir_interp.specs.Holds.{held_by}
use Rattle.mir_interp.proofs.Walking.{pass_end, pass_silent}
use Rattle.mir_interp.proofs.machine.pass.Goals as goal

pub returns-in_ok-write-in-Some : goal.returns-in_ok-write-in-Some
returns-in_ok-write-in-Some g c = λ m env h code next p o.
    pass_end env code next p o c.args.step.now c.in-Some.phis c.as_slice.result.now (held_by c.args.store.now) (held_by c.write.new.store) (c.in-End.is ∙ ap steps.End c.in-Some.is) c.as_slice.ensures (c.in_ok-write-in-Some.ensures m env h)

pub returns-in_ok-write-in-Silent : goal.returns-in_ok-write-in-Silent
returns-in_ok-write-in-Silent g c = λ m env h code next p o.
    pass_silent env code next p o c.args.step.now c.in-Silent.writes c.as_slice-in-Silent.result.now (held_by c.args.store.now) (held_by c.write-in-Silent.new.store) c.in-Silent.is c.as_slice-in-Silent.ensures (c.in_ok-write-in-Silent.ensures m env h)
