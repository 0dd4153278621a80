use Rattle.std.proofs.Common.{ℕ, Bool, take, [], ◌∷◌}
use Rattle.std.specs.Prelude.{flat_map}
use Rattle.spiller.proofs.NumbersTaken.{Adds}
use Rattle.spiller.proofs.slot_map.add_declared.Given as goal

abbrev pub invariant-frames : goal.invariant-frames
invariant-frames l = Adds l.fn.taken.keys (flat_map (λ (p : ℕ × Bool). p.0 ∷ []) (take l.frame-index l.frames)) l.taken.keys
