use Rattle.std.proofs.Common.{◌≡◌, ◌++◌, drop, map}
use Rattle.mir_func.specs.Binding.{explicit_bound, explicit_roles, numbered}
use Rattle.two_address.specs.Ties.{retied_operand}
use Rattle.two_address.proofs.ties.retied_operands.Given as goal

abbrev pub invariant-each : goal.invariant-each
invariant-each l = l.made ++ map (retied_operand l.target l.classes l.ties) (numbered l.number (explicit_bound (explicit_roles l.left) (drop l.number l.operands))) ≡ map (retied_operand l.target l.classes l.ties) (numbered 0 (explicit_bound (explicit_roles l.roles) l.operands))
