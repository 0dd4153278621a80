use Rattle.ready_laws.proofs.Frames.{frames-fit}
use Rattle.ready_laws.proofs.frames_law.Goals as goal

pub returns : goal.returns
returns c = frames-fit
