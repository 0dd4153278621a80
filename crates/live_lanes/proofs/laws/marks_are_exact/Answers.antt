use Rattle.live_lanes.proofs.Grown.{start-law, writing-law}
use Rattle.live_lanes.proofs.Growth.{piece-law}
use Rattle.live_lanes.proofs.laws.marks_are_exact.Goals as goal

pub returns : goal.returns
returns c = record { start = start-law; writing = writing-law; piece = piece-law }
