use Rattle.std.proofs.Common.{sym, ◌∙◌}
use Rattle.alloc_check.proofs.Judged.{any-verdict}
use Rattle.alloc_check.proofs.check.agree.Goals as goal

pub returns-clause-chosen : goal.returns-clause-chosen
returns-clause-chosen c = any-verdict _ (sym c.names_virtual.ensures ∙ c.if-names_virtual.false) c.compare_functions.result
