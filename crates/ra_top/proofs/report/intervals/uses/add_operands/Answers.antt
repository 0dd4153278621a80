use Rattle.std.proofs.Common.{◌∙◌, ◌+◌, ap, sym, refl, drop, arith}
use Rattle.std.specs.Prelude.{slice_get, option_map}
use Rattle.ra_top.specs.Report.Intervals.Told.{with_operand, with_operands}
use Rattle.ra_top.proofs.ReportLemmas.Intervals.Rows.{drop-none}
use Rattle.ra_top.proofs.ReportLemmas.Intervals.Uses.{one-more, none-more}
use Rattle.ra_top.proofs.report.intervals.uses.add_operands.Goals as goal

pub list-preserved : goal.list-preserved
list-preserved c =
    let a = c.args in
    record {
      count = c.add_operand.ensures.count ∙ c.list.invariant.count;
      each = λ v.
          ap (option_map (with_operands a.freq v (drop (c.list.operand-index + 1) a.operands.now))) (c.add_operand.ensures.each v)
          ∙ one-more (with_operands a.freq v) (with_operand a.freq v) (λ o rest x. refl) c.list.operand-index a.operands.now c.operand-item.result (slice_get c.list.uses v) (omega arith) c.operand-item.is
          ∙ c.list.invariant.each v;
    }

pub returns-clause-each : goal.returns-clause-each
returns-clause-each c = λ v. sym (none-more (with_operands c.args.freq v) (λ x. refl) (drop c.list.operand-index c.args.operands.now) (slice_get c.list.uses v) (drop-none c.list.operand-index c.args.operands.now (omega arith))) ∙ c.list.invariant.each v
