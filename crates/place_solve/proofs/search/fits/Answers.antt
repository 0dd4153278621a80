use Rattle.std.proofs.Common.{arith}
use Rattle.place_solve.specs.Choice.{use_of}
use Rattle.place_solve.proofs.Chosen.{fit_next, fit_lost, fit_all}
use Rattle.place_solve.proofs.search.fits.Goals as goal

pub each-preserved : goal.each-preserved
each-preserved c = fit_next c.args.target.now c.args.variables.now c.args.chosen.now c.each.k (use_of c.args.kind) c.args.r _ _ c.clashes.result _ (omega arith) (omega arith) c.clashes.ensures c.if-clashes.false c.each.invariant

pub returns-then-clashes : goal.returns-then-clashes
returns-then-clashes c = fit_lost c.args.target.now c.args.variables.now c.args.chosen.now c.each.k (use_of c.args.kind) c.args.r _ _ c.clashes.result _ (omega arith) (omega arith) c.clashes.ensures c.if-clashes.true c.each.invariant

pub returns : goal.returns
returns c = fit_all c.args.target.now c.args.variables.now c.args.chosen.now c.each.k (use_of c.args.kind) c.args.r _ (omega arith) c.each.invariant
