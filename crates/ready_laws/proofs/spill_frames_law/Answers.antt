use Rattle.ready_laws.proofs.SpillFrames.{spill-keeps-frames}
use Rattle.ready_laws.proofs.spill_frames_law.Goals as goal

pub returns : goal.returns
returns c = spill-keeps-frames
