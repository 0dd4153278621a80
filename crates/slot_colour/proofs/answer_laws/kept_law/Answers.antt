use Rattle.slot_colour.proofs.Homes.{keeps-all}
use Rattle.slot_colour.proofs.answer_laws.kept_law.Goals as goal

pub returns : goal.returns
returns c = keeps-all
