use Rattle.std.proofs.Common.{◌≡◌, ◌++◌, drop, map}
use Rattle.mir_meaning.specs.Codes.{item_of, blocks_code}
use Rattle.mir_interp.specs.Decoded.{code_of_steps, bare}
use Rattle.mir_interp.proofs.steps.steps_of.Given as goal

abbrev pub invariant-loop-k : goal.invariant-loop-k
invariant-loop-k l = code_of_steps l.out ++ map bare (blocks_code (item_of l.t l.f) l.t l.f (drop l.k l.f.blocks)) ≡ map bare (blocks_code (item_of l.t l.f) l.t l.f l.f.blocks)
