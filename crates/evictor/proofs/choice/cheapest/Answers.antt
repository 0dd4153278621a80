use Rattle.std.proofs.Common.{◌≡◌, ◌∙◌, ap}
use Rattle.std.specs.Prelude.{List}
use Rattle.target_base.specs.declared.types.Reg.{Reg}
use Rattle.evictor.specs.Cheapest.{cheapest_of}
use Rattle.evictor.specs.Settings.{setting_of}
use Rattle.evictor.proofs.choice.cheapest.Goals as goal

pub returns : goal.returns
returns c = λ ordered weighs fits count same.
    let a = c.args in
    let s = setting_of a.m.now a.freqs.now a.ranks.now a.v in
    c.in_ok-answer.ensures ordered weighs fits ∙ ap (λ (rs : List Reg). cheapest_of s rs) (c.as_slice.ensures.value ∙ c.in_ok-found.ensures weighs.tells count same)
