-- What the checker of allocations says of two functions of one name.
use Rattle.std.specs.Prelude.{Result, Ok, Err, IfOk}
use Rattle.target_base.specs.declared.types.Target.{Target}
use Rattle.mir_func.specs.Value.{Function}
use Rattle.machine_verify.specs.Lives.{FitsTarget}
use Rattle.alloc_check.specs.Verdict.{IfYes, IsRight, TellsAgreement}
use Rattle.alloc_check.specs.declared.check.Verdict.{Verdict}
use Rattle.ra_top.specs.Commands.Pairs.{IsVerdictOf}

pub verdict : {E : Type 0} (t : Target) (f g : Function) (r : Result Verdict E) → IfOk r (IfYes (IsRight t f g)) → (FitsTarget t g → IfOk r (TellsAgreement t f g)) → IfOk r (IsVerdictOf t f g)
verdict t f g (Ok v) right agrees = record { right = right; agreement = agrees }
verdict t f g (Err e) right agrees = tt
