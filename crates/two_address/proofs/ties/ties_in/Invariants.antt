use Rattle.std.proofs.Common.{◌≡◌, ◌≤◌, ◌+◌, ◌++◌}
use Rattle.mir_func.specs.Binding.{explicit_roles}
use Rattle.two_address.specs.Classes.{seated}
use Rattle.two_address.specs.Ties.{ties_in}
use Rattle.two_address.proofs.Seats.{ties_left}
use Rattle.two_address.proofs.ties.ties_in.Given as goal

abbrev pub invariant-each : goal.invariant-each
invariant-each l = (l.ties.items ++ ties_left (seated l.target l.i) l.next (explicit_roles l.left) l.o-index l.i.operands ≡ ties_in l.target l.c l.i) × (l.next ≤ l.c + l.o-index)
