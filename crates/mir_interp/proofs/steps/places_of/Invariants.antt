use Rattle.std.proofs.Common.{◌≡◌, ◌-◌, drop, length, ℕ}
use Rattle.std.specs.Prelude.{nat_eq, unwrap_or}
use Rattle.std.specs.HashMap.{get}
use Rattle.meaning.specs.Code.{found}
use Rattle.mir_interp.specs.Decoded.{code_of_steps}
use Rattle.mir_interp.proofs.steps.places_of.Given as goal

abbrev pub invariant-loop-k : goal.invariant-loop-k
invariant-loop-k l = (n : ℕ) → found n (drop (length l.steps - l.k) (code_of_steps l.steps)) ≡ drop (unwrap_or (get nat_eq l.places n) (length l.steps)) (code_of_steps l.steps)
