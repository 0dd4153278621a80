use Rattle.std.proofs.Common.{◌≡◌, drop}
use Rattle.mir_interp.specs.Stands.{first_seen, symbols_among, symbols_of}
use Rattle.std.specs.Prelude.{flat_map}
use Rattle.mir_interp.proofs.names.symbols_of.Given as goal

abbrev pub invariant-loop-b : goal.invariant-loop-b
invariant-loop-b l = first_seen l.names (flat_map (λ b. symbols_among b.instrs) (drop l.b-index l.f.blocks)) ≡ symbols_of l.f
