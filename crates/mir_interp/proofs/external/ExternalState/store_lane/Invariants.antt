use Rattle.std.proofs.Common.{◌≡◌, ◌-◌, ℕ}
use Rattle.meaning.specs.Environment.{Environment, Value}
use Rattle.meaning.specs.Perform.{stored_bytes}
use Rattle.mir_interp.specs.Remembers.{Matches}
use Rattle.std.specs.Prelude.{List}
use Rattle.mir_interp.proofs.external.ExternalState.store_lane.Given as goal

abbrev pub invariant-loop-k : goal.invariant-loop-k
invariant-loop-k l = (l.self.calls ≡ l.initial.self.calls) × ((env : Environment) (bs : List (ℕ × Value)) → Matches env l.initial.self.bytes bs → (cs : List (ℕ × Value)) × (Matches env l.self.bytes cs) × (stored_bytes l.w l.at l.rest (l.count - l._k) cs ≡ stored_bytes l.w l.a l.fn.value l.count bs))
