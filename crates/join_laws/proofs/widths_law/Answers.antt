use Rattle.join_laws.proofs.Asked.{asked, shares}
use Rattle.join_laws.proofs.widths_law.Goals as goal

pub returns : goal.returns
returns c t f id j low join = shares t f j (asked t f id j low join.0)
