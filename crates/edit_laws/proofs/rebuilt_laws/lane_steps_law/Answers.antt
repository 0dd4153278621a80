use Rattle.edit_laws.proofs.LaneSteps.{lane-steps-law}
use Rattle.edit_laws.proofs.rebuilt_laws.lane_steps_law.Goals as goal

pub returns : goal.returns
returns c = lane-steps-law
