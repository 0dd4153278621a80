use Rattle.std.proofs.Common.{◌≡◌, drop, ℕ}
use Rattle.meaning.specs.Environment.{Environment, Value}
use Rattle.meaning.specs.Perform.{stored}
use Rattle.mir_interp.specs.Remembers.{Matches}
use Rattle.std.specs.Prelude.{List}
use Rattle.mir_interp.proofs.external.ExternalState.store.Given as goal

abbrev pub invariant-loop-k : goal.invariant-loop-k
invariant-loop-k l = (l.self.calls ≡ l.initial.self.calls) × ((env : Environment) (bs : List (ℕ × Value)) → Matches env l.initial.self.bytes bs → (cs : List (ℕ × Value)) × (Matches env l.self.bytes cs) × (stored l.w l.at (drop l.k l.widths) (drop l.k l.lanes) cs ≡ stored l.w l.a l.widths l.lanes bs))
