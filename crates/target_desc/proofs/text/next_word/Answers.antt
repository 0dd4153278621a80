use Rattle.std.proofs.Common.{◌≡◌, ◌∙◌, length, arith}
use Rattle.std.proofs.lemmas.Grind.{common_steps}
use Rattle.target_desc.proofs.Cut.{words_none}
use Rattle.target_desc.proofs.text.next_word.Goals as goal

pub returns-clause-word : goal.returns-clause-word
returns-clause-word c =
    let none : length c.parts.rest.now ≡ 0 = grind (arith, common_steps, c.is_empty.ensures) in
    c.parts.invariant.same ∙ words_none c.parts.rest.now none
