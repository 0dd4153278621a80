use Rattle.place_solve.proofs.Serving.{serve_more}
use Rattle.place_solve.proofs.check.unassignable.Goals as goal

pub each-preserved : goal.each-preserved
each-preserved c = λ ordered. serve_more c.args.live.now.target c.args.live.now.func c.args.live.now.table c.as_slice-instrs.result.now c.each.j c.in_ok-admits.field-0 c.if-not-branch.false (c.each.invariant ordered) (c.in_ok-admits.ensures ordered)
