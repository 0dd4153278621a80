use Rattle.std.proofs.Common.{◌∙◌, ap, sym, true}
use Rattle.spiller.specs.Walks.{lists}
use Rattle.spiller.proofs.reaching.definition_of.Goals as goal

pub returns-clause-reached : goal.returns-clause-reached
returns-clause-reached c = λ ordered k i.
    let z = c.in_ok-readings.ensures ordered k i in
    let same = c.in_ok-set_of.ensures k i ∙ ap (λ rs. lists rs k i) c.as_slice.ensures.value in
    ((λ h. z.0 (sym same ∙ h)), (λ f. same ∙ z.1 f))

pub returns-clause-constant : goal.returns-clause-constant
returns-clause-constant c = λ finds p j b i stands there same. c.is_repeatable_id.ensures finds p j b i stands there same
