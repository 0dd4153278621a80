use Rattle.mir_func.proofs.TakenBack.{restored-law, retracted-law}
use Rattle.mir_func.proofs.place_laws.taken_back_law.Goals as goal

pub returns : goal.returns
returns c = record { retracted = retracted-law; restored = restored-law }
