use Rattle.std.proofs.Common.{◌∙◌, ◌+◌}
use Rattle.mir_interp.proofs.Bits.{wrap}
use Rattle.mir_interp.proofs.numbers.add.Goals as goal

pub returns : goal.returns
returns c = c.low_bits.ensures ∙ wrap (c.args.a + c.args.b) c.args.w c.requires
