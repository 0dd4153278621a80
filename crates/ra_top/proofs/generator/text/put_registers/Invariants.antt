use Rattle.std.proofs.Common.{◌≡◌, ◌++◌}
use Rattle.ra_top.specs.Generator.Text.{register_lines, behind_registers}
use Rattle.ra_top.proofs.generator.text.put_registers.Given as goal

abbrev pub invariant-registers : goal.invariant-registers
invariant-registers l = (l.out ≡ l.fn.out ++ register_lines l.v l.fn.source.x) × (l.source.x ≡ behind_registers l.v l.fn.source.x)
