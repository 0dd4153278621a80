use Rattle.std.proofs.Common.{◌≡◌, ◌+◌, take}
use Rattle.pipeline.specs.Guarded.Limits.{instr_count}
use Rattle.pipeline.proofs.guarded.limits.passes_instrs.Given as goal

abbrev pub invariant-blocks-2 : goal.invariant-blocks-2
invariant-blocks-2 l = l.left + instr_count (take l.b-index l.blocks) ≡ 16384
