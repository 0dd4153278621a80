use Rattle.std.proofs.Common.{◌≡◌, ◌++◌, drop}
use Rattle.std.specs.Prelude.{flat_map}
use Rattle.mir_meaning.specs.Agreement.{counted_from}
use Rattle.alloc_check.proofs.doubts.places_in.Given as goal

abbrev pub invariant-loop-b : goal.invariant-loop-b
invariant-loop-b l = l.made ++ flat_map (λ b. counted_from l.t b.number 0 b.instrs) (drop l.b-index l.blocks) ≡ flat_map (λ b. counted_from l.t b.number 0 b.instrs) l.blocks
