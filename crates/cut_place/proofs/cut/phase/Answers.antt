use Rattle.cut_place.proofs.Sums.{value_fits}
use Rattle.cut_place.proofs.cut.phase.Goals as goal

pub returns-clause-fits : goal.returns-clause-fits
returns-clause-fits c =
    value_fits c.args.arcs.now c.blocking_flow.new.flow c.in_ok-last.last c.in_ok-last.ensures.within c.in_ok-last.ensures.balanced c.requires.small c.requires.few
