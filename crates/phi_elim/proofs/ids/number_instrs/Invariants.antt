use Rattle.std.proofs.Common.{◌≡◌, ◌≤◌, ◌+◌, ◌*◌, ◌-◌, ◌^◌, ◌++◌, min, length, take, drop}
use Rattle.phi_elim.specs.Numbered.{numbered, blocks_numbered, instr_count}
use Rattle.phi_elim.proofs.ids.number_instrs.Given as goal

abbrev pub invariant-each : goal.invariant-each
invariant-each l = (take l.k l.instrs ++ numbered l.next (drop l.k l.instrs) ≡ numbered l.first l.fn.instrs) × (l.next ≡ l.first + l.k) × (length l.instrs ≡ length l.fn.instrs)
