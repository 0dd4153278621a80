use Rattle.std.proofs.Common.{◌≡◌, ◌∙◌, sym}
use Rattle.basic_alloc.proofs.Choosing.{taken, not_taken}
use Rattle.basic_alloc.proofs.choice.choice_of.Goals as goal

pub returns-in-Some : goal.returns-in-Some
returns-in-Some c = λ ordered weighs none.
    let a = c.args in
    taken a.m.now a.freqs.now a.ranks.now a.v ordered a.found.now c.in-Some.r (sym c.in-Some.is ∙ c.first_free.ensures ordered)

pub returns-in_ok-choice-in-None : goal.returns-in_ok-choice-in-None
returns-in_ok-choice-in-None c = λ ordered weighs none.
    let a = c.args in
    not_taken a.m.now a.freqs.now a.ranks.now a.v ordered a.found.now c.in_ok-choice-in-None.choice none (sym c.in-None.is ∙ c.first_free.ensures ordered) (c.in_ok-choice-in-None.ensures ordered weighs none)
