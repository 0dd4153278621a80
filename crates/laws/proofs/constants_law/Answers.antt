use Rattle.laws.proofs.Bits.{sources_have_their_bits}
use Rattle.laws.proofs.constants_law.Goals as goal

pub returns : goal.returns
returns c = sources_have_their_bits
