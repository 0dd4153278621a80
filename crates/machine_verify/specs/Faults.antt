-- Faults as code holds them.
use Rattle.mir_meaning.specs.Valid.{Fault}
use Rattle.machine_verify.specs.declared.stop.Invalid.{Invalid}

-- the place and the rule
abbrev pub fault_of : Invalid → Fault
fault_of x = (x.place, x.rule)
