use Rattle.mir_func.proofs.ByPlace.{gap_before_is, inserted_is_put}
use Rattle.mir_func.proofs.TakenBack.{stands-law}
use Rattle.mir_func.proofs.place_laws.put_law.Goals as goal

pub returns : goal.returns
returns c = record { put = inserted_is_put; stands = stands-law; gap = gap_before_is }
