use Rattle.mir_text.proofs.Laws.Spelled.{classes-law}
use Rattle.mir_text.proofs.text_laws.classes_law.Goals as goal

pub returns : goal.returns
returns c = classes-law
