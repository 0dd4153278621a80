use Rattle.mir_text.proofs.Laws.Spelled.{few-law}
use Rattle.mir_text.proofs.text_laws.few_law.Goals as goal

pub returns : goal.returns
returns c = few-law
