use Rattle.std.proofs.Common.{◌∙◌, arith, sym}
use Rattle.place_solve.proofs.Narrowing.{none_served}
use Rattle.place_solve.proofs.domains.has_none.Goals as goal

pub returns-then-len-eq0 : goal.returns-then-len-eq0
returns-then-len-eq0 c = λ e. none_served c.args.left.now c.each.k c.index-left-k.result (omega arith) c.index-left-k.is (sym c.len.ensures ∙ c.if-len-eq0.true)
