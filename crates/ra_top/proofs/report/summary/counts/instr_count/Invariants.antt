use Rattle.std.proofs.Common.{◌≡◌, ◌≤◌, ◌*◌, ◌-◌, ◌^◌, length, take}
use Rattle.std.specs.List.{sum_by}
use Rattle.ra_top.proofs.report.summary.counts.instr_count.Given as goal

abbrev pub invariant-layout : goal.invariant-layout
invariant-layout l = (l.count ≡ sum_by (λ b. length b.instrs) (take l.block-index l.blocks)) × (l.count ≤ l.block-index * (2 ^ 64 - 1))
