use Rattle.alloc_check.specs.Asking.{asked_to}
use Rattle.alloc_check.specs.Families.{IsLeast}
use Rattle.alloc_check.proofs.settle.decide.Given as goal

abbrev pub invariant-loop : goal.invariant-loop
invariant-loop l = IsLeast (asked_to l.asking l.rows) l.family
