use Rattle.mir_func.proofs.Later.{deleted-changed, deleted-put, deleted-twice}
use Rattle.mir_func.proofs.place_laws.deleted_later_law.Goals as goal

pub returns : goal.returns
returns c = record { twice = deleted-twice; changed = deleted-changed; put = deleted-put }
