use Rattle.std.proofs.Common.{◌∙◌, sym}
use Rattle.std.proofs.lemmas.Result.{on_ok_weaker}
use Rattle.spiller.specs.Listed.{keyed_move}
use Rattle.spiller.proofs.ListSteps.{lists-if, lists-if-not}
use Rattle.spiller.proofs.remat.add_store.Goals as goal

pub returns-then-not-is_own : goal.returns-then-not-is_own
returns-then-not-is_own c =
    lists-if-not c.args.view c.args.definitions.now c.args.from.now (λ s. keyed_move s c.args.instr.now c.args.from.now.index) c.args.readings.now.items (sym c.is_own.ensures ∙ c.if-not-is_own.true)

pub returns : goal.returns
returns c =
    on_ok_weaker c.add_plain.result
    (λ l. lists-if c.args.view c.args.definitions.now c.args.from.now (λ s. keyed_move s c.args.instr.now c.args.from.now.index) c.args.readings.now.items c.add_plain.new.readings.items (sym c.is_own.ensures ∙ c.if-not-is_own.false) l)
    c.add_plain.ensures
