use Rattle.std.proofs.Common.{sym, ◌∙◌, arith}
use Rattle.source_text.specs.Blocks.{keeps_block}
use Rattle.source_text.proofs.Short.{alike_short}
use Rattle.source_text.proofs.blocks.keep_each.Goals as goal

pub returns-in-empty : goal.returns-in-empty
returns-in-empty c = sym (alike_short (keeps_block c.args.target.now) c.args.blocks.now c.layout.b-index c.layout.left.now (omega arith) (omega arith)) ∙ c.layout.invariant
