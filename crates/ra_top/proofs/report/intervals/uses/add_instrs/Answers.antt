use Rattle.std.proofs.Common.{◌≡◌, ◌∙◌, ◌+◌, ap, sym, refl, drop, arith}
use Rattle.std.specs.Prelude.{slice_get, option_map}
use Rattle.mir_func.specs.declared.func.Instr.{Instr}
use Rattle.ra_top.specs.Report.Intervals.Told.{with_operands, with_instrs}
use Rattle.ra_top.proofs.ReportLemmas.Intervals.Rows.{drop-none}
use Rattle.ra_top.proofs.ReportLemmas.Intervals.Uses.{one-more, none-more}
use Rattle.ra_top.proofs.report.intervals.uses.add_instrs.Goals as goal

pub list-preserved : goal.list-preserved
list-preserved c =
    let a = c.args in
    let e : c.as_slice.result.now ≡ c.instr-item.result.operands = cc in
    record {
      count = c.add_operands.ensures.count ∙ c.list.invariant.count;
      each = λ v.
          ap (option_map (with_instrs a.freq v (drop (c.list.instr-index + 1) a.instrs.now))) (c.add_operands.ensures.each v ∙ ap (λ os. option_map (with_operands a.freq v os) (slice_get c.list.uses v)) e)
          ∙ one-more (with_instrs a.freq v) (λ (i : Instr). with_operands a.freq v i.operands) (λ i rest x. refl) c.list.instr-index a.instrs.now c.instr-item.result (slice_get c.list.uses v) (omega arith) c.instr-item.is
          ∙ c.list.invariant.each v;
    }

pub returns-clause-each : goal.returns-clause-each
returns-clause-each c = λ v. sym (none-more (with_instrs c.args.freq v) (λ x. refl) (drop c.list.instr-index c.args.instrs.now) (slice_get c.list.uses v) (drop-none c.list.instr-index c.args.instrs.now (omega arith))) ∙ c.list.invariant.each v
