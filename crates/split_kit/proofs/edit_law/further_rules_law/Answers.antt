use Rattle.split_kit.proofs.FurtherShapes.{rules-kept}
use Rattle.split_kit.proofs.edit_law.further_rules_law.Goals as goal

pub returns : goal.returns
returns c = λ t f cs rules new. rules-kept t f cs new rules
