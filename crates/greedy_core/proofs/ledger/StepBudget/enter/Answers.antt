use Rattle.std.proofs.Common.{sym, subst, arith, OnOk}
use Rattle.greedy_core.proofs.Records.{AlsoRecords, on_ok, spill_more}
use Rattle.greedy_core.proofs.ledger.StepBudget.enter.Goals as goal

pub returns-in-Spill : goal.returns-in-Spill
returns-in-Spill c =
    subst (λ step. OnOk c.enter_spill.result (AlsoRecords c.args.self.now c.enter_spill.new.self step)) (sym c.in-Spill.is)
    (on_ok c.enter_spill.result (λ first spilled spare. spill_more c.args.self.now c.enter_spill.new.self c.in-Spill.v c.in-Spill.tinies first spilled (omega (arith, spare, c.len.ensures)))
    c.enter_spill.ensures.first c.enter_spill.ensures.spilled c.enter_spill.ensures.spare)
