use Rattle.place_solve.proofs.Narrowing.{nogood_if_none, nogood_if_known, nogood_if_short}
use Rattle.place_solve.proofs.search.is_nogood.Goals as goal

pub returns-then-has_none : goal.returns-then-has_none
returns-then-has_none c = λ e. nogood_if_none c.args.target.now c.args.variables.now c.args.left.now (c.has_none.ensures c.if-has_none.true)

pub returns-then-has : goal.returns-then-has
returns-then-has c = λ e. nogood_if_known c.args.target.now c.args.variables.now c.args.left.now c.args.nogoods.now.lists c.requires.known (c.has.ensures c.if-has.true)

pub returns : goal.returns
returns c = λ e. nogood_if_short c.args.target.now c.args.variables.now c.args.left.now (c.in_ok-short.ensures e)
