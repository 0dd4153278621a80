use Rattle.std.proofs.Common.{◌∙◌, ◌*◌}
use Rattle.mir_interp.proofs.Bits.{wrap_then_add}
use Rattle.mir_interp.proofs.numbers.madd.Goals as goal

pub returns : goal.returns
returns c = c.add.ensures ∙ wrap_then_add (c.args.a * c.args.b) c.args.c c.args.w c.requires
