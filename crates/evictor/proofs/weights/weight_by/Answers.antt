use Rattle.evictor.proofs.weights.weight_by.Goals as goal

pub returns-in-Some : goal.returns-in-Some
returns-in-Some c = λ order tells known few small. c.weight_for.ensures c.args.freqs.now order tells (rw c.in-Some.is at known) few small

pub returns-in_ok-uses-in-None : goal.returns-in_ok-uses-in-None
returns-in_ok-uses-in-None c = λ order tells known few small. c.weight_for-in-None.ensures c.args.freqs.now order tells (c.in_ok-uses-in-None.ensures tells) few small
