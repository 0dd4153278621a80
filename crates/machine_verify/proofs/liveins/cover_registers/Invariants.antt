use Rattle.std.proofs.Common.{◌≡◌, ◌++◌, ◌-◌, length}
use Rattle.mir_meaning.specs.Registers.{numbers}
use Rattle.machine_verify.specs.Liveins.{is_set, wanted}
use Rattle.machine_verify.proofs.liveins.cover_registers.Given as goal

abbrev pub invariant-units : goal.invariant-units
invariant-units l = l.made.items ++ wanted l.target l.rs (is_set l.live) (numbers l.u (length l.target.units - l.u)) ≡ wanted l.target l.rs (is_set l.live) (numbers 0 (length l.target.units))
