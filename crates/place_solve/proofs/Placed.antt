-- Places of tinies.
use Rattle.std.proofs.Common.{◌≡◌, Some}
use Rattle.mir_func.specs.declared.func.Block.{Block}
use Rattle.interference.specs.declared.tiny.Tiny.{Tiny}

pub same-block : (a b : Block) → Some a ≡ Some b → a ≡ b
same-block a b e = cc

pub same-tiny : (a b : Tiny) → Some a ≡ Some b → a ≡ b
same-tiny a b e = cc
