use Rattle.std.proofs.Common.{◌≡◌, ◌≤◌, ◌+◌, ◌*◌, ◌-◌, ◌^◌, ◌++◌, min, length, take, drop}
use Rattle.std.specs.List.{sum_by}
use Rattle.phi_elim.specs.Bulk.{operand_count}
use Rattle.phi_elim.proofs.amount.add_instrs.Given as goal

abbrev pub invariant-each : goal.invariant-each
invariant-each l = l.sum ≡ min (l.before + operand_count (take l.i-index l.instrs)) (2 ^ 64 - 1)
