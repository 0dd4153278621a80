use Rattle.slot_colour.proofs.Homes.{keeps-count}
use Rattle.slot_colour.proofs.answer_laws.count_law.Goals as goal

pub returns : goal.returns
returns c = keeps-count
