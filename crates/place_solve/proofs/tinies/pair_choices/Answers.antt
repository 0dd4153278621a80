use Rattle.std.proofs.Common.{arith}
use Rattle.place_solve.proofs.Pairing.{pairs_out}
use Rattle.place_solve.proofs.tinies.pair_choices.Goals as goal

pub returns-then-k-chosen : goal.returns-then-k-chosen
returns-then-k-chosen c = pairs_out c.args.variables.now c.args.chosen.now c.each.k c.each.made _ (omega arith) c.each.invariant
