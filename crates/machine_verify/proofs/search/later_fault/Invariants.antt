use Rattle.std.proofs.Common.{◌≡◌, drop}
use Rattle.mir_meaning.specs.Valid.{instrs_fault}
use Rattle.machine_verify.specs.InstrRules.{before_at}
use Rattle.machine_verify.proofs.search.later_fault.Given as goal

abbrev pub invariant-instrs : goal.invariant-instrs
invariant-instrs l = record {
  before : l.before ≡ before_at l.q.target.now l.b.instrs l.j;
  rest : instrs_fault l.q.target.now l.q.form l.q.f.now l.k l.b 1 (drop 1 l.b.instrs) ≡ instrs_fault l.q.target.now l.q.form l.q.f.now l.k l.b l.j (drop l.j l.b.instrs);
}
