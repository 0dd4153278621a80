use Rattle.std.proofs.Common.{arith}
use Rattle.target_desc.proofs.names.DeclaredNames.declare.Goals as goal

pub add-requires : goal.add-requires
add-requires c = omega arith
