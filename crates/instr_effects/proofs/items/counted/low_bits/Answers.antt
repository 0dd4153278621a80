use Rattle.std.proofs.Common.{arith, sym}
use Rattle.instr_effects.proofs.ItemLemmas.Residues.{whole}
use Rattle.instr_effects.proofs.items.counted.low_bits.Goals as goal

pub returns-then-w-ge128 : goal.returns-then-w-ge128
returns-then-w-ge128 c = sym (whole c.args.n c.args.w (omega arith) c.if-w-ge128.true)
