use Rattle.std.proofs.Common.{◌≡◌, ◌++◌, drop, map}
use Rattle.mir_func.specs.declared.func.Block.{Block}
use Rattle.mir_meaning.specs.Codes.{item_of}
use Rattle.mir_interp.specs.Decoded.{code_of_steps, bare}
use Rattle.mir_interp.proofs.steps.push_instrs.Given as goal

abbrev pub invariant-loop-i : goal.invariant-loop-i
invariant-loop-i l = (b : Block) → b.number ≡ l.n → code_of_steps l.out ++ map bare (map (item_of l.t l.f b) (drop l.i-index l.instrs)) ≡ code_of_steps l.initial.out ++ map bare (map (item_of l.t l.f b) l.instrs)
