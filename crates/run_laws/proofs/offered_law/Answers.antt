use Rattle.run_laws.proofs.Offers.{offered_is_in_turn, offered_is_step}
use Rattle.run_laws.proofs.offered_law.Goals as goal

pub returns-clause-step : goal.returns-clause-step
returns-clause-step c = offered_is_step

pub returns-clause-turn : goal.returns-clause-turn
returns-clause-turn c = offered_is_in_turn
