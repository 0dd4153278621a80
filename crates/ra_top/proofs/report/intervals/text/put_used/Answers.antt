use Rattle.std.proofs.lemmas.Result.{on_ok_weaker}
use Rattle.ra_top.proofs.ReportLemmas.Intervals.Parts.{used-text, unused-text}
use Rattle.ra_top.proofs.report.intervals.text.put_used.Goals as goal

pub returns-then-own : goal.returns-then-own
returns-then-own c =
    let a = c.args in
    on_ok_weaker c.put_named.result (λ e. used-text a.target.now a.live.now.table a.live.now.func a.v a.own a.out.now c.put_named.new.out c.if-own.true e) c.put_named.ensures

pub returns-else-own : goal.returns-else-own
returns-else-own c =
    let a = c.args in
    unused-text a.target.now a.live.now.table a.live.now.func a.v a.own a.out.now c.if-own.false
