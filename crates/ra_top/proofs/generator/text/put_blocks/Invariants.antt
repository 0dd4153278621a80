use Rattle.std.proofs.Common.{◌≡◌, ◌++◌}
use Rattle.ra_top.specs.Generator.Text.{blocks_lines, behind_blocks}
use Rattle.ra_top.proofs.generator.text.put_blocks.Given as goal

abbrev pub invariant-layout : goal.invariant-layout
invariant-layout l = (l.out ≡ l.fn.out ++ blocks_lines l.b l.fn.source.x) × (l.source.x ≡ behind_blocks l.b l.fn.source.x)
