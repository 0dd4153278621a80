use Rattle.std.proofs.Common.{◌≡◌, drop}
use Rattle.mir_interp.specs.Stands.{first_seen, symbols_in}
use Rattle.mir_interp.proofs.names.add_symbols.Given as goal

abbrev pub invariant-loop-o : goal.invariant-loop-o
invariant-loop-o l = first_seen l.names (symbols_in (drop l.o-index l.operands)) ≡ first_seen l.initial.names (symbols_in l.operands)
