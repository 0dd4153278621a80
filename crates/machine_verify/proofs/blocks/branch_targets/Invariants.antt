use Rattle.std.proofs.Common.{◌≡◌, ◌++◌, drop}
use Rattle.mir_meaning.specs.Rules.{branch_targets}
use Rattle.machine_verify.proofs.blocks.branch_targets.Given as goal

abbrev pub invariant-loop-i : goal.invariant-loop-i
invariant-loop-i l = l.made.items ++ branch_targets l.target (drop l.i-index l.instrs) ≡ branch_targets l.target l.instrs
