use Rattle.alloc_check.proofs.Passing.{passed-none}
use Rattle.alloc_check.proofs.settle.new_pass.Goals as goal

pub returns : goal.returns
returns c = λ family. passed-none family _ c.in_ok-new.ensures
