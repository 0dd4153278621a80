use Rattle.split_kit.proofs.LiveTests.{live, shown, table_live}
use Rattle.split_kit.proofs.edit_law.shown_parts_law.Goals as goal

pub returns : goal.returns
returns c = λ t f x v ms computed rules last phis known few turn. (table_live x f v, live t f x v computed rules last, shown t f x v computed rules last ms phis known few turn)
