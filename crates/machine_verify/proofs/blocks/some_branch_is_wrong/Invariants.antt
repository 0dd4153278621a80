use Rattle.std.proofs.Common.{◌≡◌, drop}
use Rattle.std.specs.Prelude.{◌&&◌, not}
use Rattle.std.specs.List.{list_any}
use Rattle.mir_func.specs.Binding.{does, is_branch}
use Rattle.mir_meaning.specs.Rules.{V1}
use Rattle.machine_verify.proofs.blocks.some_branch_is_wrong.Given as goal

abbrev pub invariant-loop-i : goal.invariant-loop-i
invariant-loop-i l = list_any (λ i. does is_branch l.target i && not (V1 l.target l.f i)) l.instrs ≡ list_any (λ i. does is_branch l.target i && not (V1 l.target l.f i)) (drop l.i-index l.instrs)
