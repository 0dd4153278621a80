use Rattle.std.proofs.Common.{◌∙◌, ap}
use Rattle.coalescer.specs.Coalescing.{sides_in}
use Rattle.coalescer.proofs.Facts.{tells}
use Rattle.coalescer.proofs.sides.sides_at.Goals as goal

pub returns-in-Some : goal.returns-in-Some
returns-in-Some c = λ may. c.copy_sides.ensures ∙ ap (sides_in c.args.target.now) (c.in-Some.ensures (tells c.args.target.now c.args.live.now may).finds may.lowered.function)

pub returns-in-None : goal.returns-in-None
returns-in-None c = λ may. ap (sides_in c.args.target.now) (c.in-None.ensures (tells c.args.target.now c.args.live.now may).finds may.lowered.function)
