use Rattle.rewrite_laws.proofs.Rewriting.{rewrite-refines}
use Rattle.rewrite_laws.proofs.rewrite_law.Goals as goal

pub returns : goal.returns
returns c = rewrite-refines
