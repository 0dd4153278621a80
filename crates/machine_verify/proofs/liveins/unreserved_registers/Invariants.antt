use Rattle.std.proofs.Common.{◌≡◌, ◌++◌, ◌-◌, length, map}
use Rattle.std.specs.Prelude.{filter}
use Rattle.mir_meaning.specs.Registers.{numbers}
use Rattle.mir_meaning.specs.Valid.{unreserved_registers}
use Rattle.target_base.specs.Storage.{is_unreserved}
use Rattle.target_base.specs.Numbers.{reg_number}
use Rattle.machine_verify.proofs.liveins.unreserved_registers.Given as goal

abbrev pub invariant-regs : goal.invariant-regs
invariant-regs l = l.made.items ++ filter (is_unreserved l.target.reserved l.target.regs) (map reg_number (numbers l.k (length l.target.regs - l.k))) ≡ unreserved_registers l.target
