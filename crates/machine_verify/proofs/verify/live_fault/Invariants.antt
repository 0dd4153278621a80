use Rattle.std.proofs.Common.{◌≡◌, drop}
use Rattle.machine_verify.specs.Lives.{first_late, later_fault}
use Rattle.machine_verify.proofs.verify.live_fault.Given as goal

abbrev pub invariant-rest : goal.invariant-rest
invariant-rest l = first_late l.q.target.now l.q.form l.q.f.now l.live.table l.q.f.now.blocks ≡ later_fault l.q.target.now l.q.form l.live.table l.k (drop l.k l.q.f.now.blocks)
