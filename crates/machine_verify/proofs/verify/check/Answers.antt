use Rattle.std.proofs.lemmas.Result.{err_from_is_err_and}
use Rattle.machine_verify.proofs.Told.{told_late, told_none}
use Rattle.machine_verify.proofs.verify.check.Goals as goal

pub returns-in-Some-2-clause-err : goal.returns-in-Some-2-clause-err
returns-in-Some-2-clause-err c =
    let t = c.args.q.now.target.now in
    let form = c.args.q.now.form in
    let f = c.args.q.now.f.now in
    told_late t form f c.in_ok-live.live.table _ _ c.in-Some-2.fault c.in_ok-live.ensures c.in_ok-fault.ensures c.in_default.is c.in_ok-fault-2.ensures c.in-Some-2.is

pub returns-in-None-clause-ok : goal.returns-in-None-clause-ok
returns-in-None-clause-ok c =
    let t = c.args.q.now.target.now in
    let form = c.args.q.now.form in
    let f = c.args.q.now.f.now in
    told_none t form f c.in_ok-live.live.table _ _ c.in_ok-live.ensures c.in_ok-fault.ensures c.in_default.is c.in_ok-fault-2.ensures c.in-None.is

pub returns-in_err-fault-2-clause-err : goal.returns-in_err-fault-2-clause-err
returns-in_err-fault-2-clause-err c = let p = err_from_is_err_and c.from_residual-in_err-fault-2.result c.from_residual-in_err-fault-2.ensures.1 in rw (p.1, p.2) tt
