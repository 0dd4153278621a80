use Rattle.std.proofs.Common.{◌≡◌, ◌≤◌, ◌+◌, ◌*◌, ◌-◌, ◌^◌, ◌++◌, min, length, take, drop}
use Rattle.std.specs.List.{sum_by}
use Rattle.phi_elim.specs.Bulk.{operand_count}
use Rattle.phi_elim.proofs.amount.add_blocks.Given as goal

abbrev pub invariant-layout : goal.invariant-layout
invariant-layout l = l.sum ≡ min (l.before + sum_by (λ b. operand_count b.instrs) (take l.b-index l.blocks)) (2 ^ 64 - 1)
