use Rattle.ready_laws.proofs.Frames.{split-keeps-frames}
use Rattle.ready_laws.proofs.split_frames_law.Goals as goal

pub returns : goal.returns
returns c = split-keeps-frames
