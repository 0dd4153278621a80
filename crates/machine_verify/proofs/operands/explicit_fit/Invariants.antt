use Rattle.std.proofs.Common.{◌≡◌, drop}
use Rattle.mir_func.specs.Binding.{explicit_roles, explicit_operands}
use Rattle.mir_meaning.specs.Rules.{explicit_fit}
use Rattle.machine_verify.proofs.operands.explicit_fit.Given as goal

abbrev pub invariant-loop-o : goal.invariant-loop-o
invariant-loop-o l =
    explicit_fit l.target l.effect (explicit_roles l.roles) (explicit_operands l.operands)
    ≡ explicit_fit l.target l.effect (explicit_roles l.left) (explicit_operands (drop l.o-index l.operands))
