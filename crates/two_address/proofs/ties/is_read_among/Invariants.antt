use Rattle.std.proofs.Common.{◌≡◌, drop}
use Rattle.std.specs.List.{list_any}
use Rattle.mir_func.specs.Binding.{explicit_bound, explicit_roles}
use Rattle.two_address.specs.Ties.{reads_besides}
use Rattle.two_address.proofs.ties.is_read_among.Given as goal

abbrev pub invariant-each : goal.invariant-each
invariant-each l = list_any (reads_besides l.number l.loc) (explicit_bound (explicit_roles l.left) (drop l.o-index l.operands)) ≡ list_any (reads_besides l.number l.loc) (explicit_bound (explicit_roles l.roles) l.operands)
