use Rattle.ready_laws.proofs.Frames.{first-has-frames}
use Rattle.ready_laws.proofs.first_frames_law.Goals as goal

pub returns : goal.returns
returns c = first-has-frames
