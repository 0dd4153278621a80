use Rattle.std.proofs.Common.{arith, ap, sym, ◌≡◌, ◌∙◌, ◌<◌, length, true}
use Rattle.std.proofs.lemmas.Grind.{common_steps}
use Rattle.mir_func.specs.Binding.{does, is_terminator}
use Rattle.place_solve.proofs.Crowds.{last_is_there}
use Rattle.place_solve.proofs.check.ends_in_terminator.Goals as goal

pub returns : goal.returns
returns c = λ e.
    let t = c.args.target.now in
    let h : 0 < length c.args.before.now = grind (arith, common_steps, c.if-is_empty.ensures) in
    let m : does is_terminator t c.index-before-before.result ≡ true = ap (does is_terminator t) (sym c.get.ensures) ∙ (sym c.is_terminator.ensures ∙ e) in
    last_is_there t c.args.before.now c.index-before-before.result h c.index-before-before.is m
