use Rattle.std.proofs.Common.{◌≡◌, ◌++◌}
use Rattle.ra_top.specs.Generator.Text.{instr_lines, behind_instrs}
use Rattle.ra_top.proofs.generator.text.put_instrs.Given as goal

abbrev pub invariant-instrs : goal.invariant-instrs
invariant-instrs l = (l.out ≡ l.fn.out ++ instr_lines l._k l.fn.source.x) × (l.source.x ≡ behind_instrs l._k l.fn.source.x)
