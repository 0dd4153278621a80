use Rattle.std.proofs.Common.{◌≡◌, drop}
use Rattle.mir_interp.specs.Stands.{first_seen, symbols_among}
use Rattle.mir_interp.proofs.names.add_all_symbols.Given as goal

abbrev pub invariant-loop-i : goal.invariant-loop-i
invariant-loop-i l = first_seen l.names (symbols_among (drop l.i-index l.instrs)) ≡ first_seen l.initial.names (symbols_among l.instrs)
