use Rattle.split_laws.proofs.PartShapes.{parts_keep_shape}
use Rattle.split_laws.proofs.shape_law.Goals as goal

pub returns : goal.returns
returns c = parts_keep_shape
