use Rattle.std.proofs.Common.{◌≡◌, drop}
use Rattle.mir_meaning.specs.Agreement.{all_alike}
use Rattle.source_text.specs.Blocks.{keeps_block}
use Rattle.source_text.proofs.blocks.keep_each.Given as goal

abbrev pub invariant-layout : goal.invariant-layout
invariant-layout l = all_alike (keeps_block l.target) (drop l.b-index l.blocks) l.left ≡ all_alike (keeps_block l.target) l.blocks l.others
