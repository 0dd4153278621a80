use Rattle.std.proofs.Common.{◌≡◌, ◌∙◌, ap, arith}
use Rattle.basic_alloc.specs.Settings.{ousting_by}
use Rattle.basic_alloc.proofs.choice.oust.Goals as goal

pub returns : goal.returns
returns c = λ ordered weighs none.
    let given = c.in_ok-view.ensures.given in
    let number = c.in_ok-view.ensures.number (omega (arith, none.greatest)) in
    let weight = c.in_ok-view.ensures.weight weighs in
    c.ousting_by.ensures ∙ ap ousting_by ((rw (given.0, given.1, given.2, given.3) at c.in_ok-first.ensures) ordered weighs number weight)
