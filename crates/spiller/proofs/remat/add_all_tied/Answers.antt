use Rattle.std.proofs.Common.{arith}
use Rattle.spiller.specs.Listed.{keyed_tied_uses}
use Rattle.spiller.proofs.ListSteps.{lists-all, lists-none, lists-step}
use Rattle.spiller.proofs.remat.add_all_tied.Goals as goal

pub instrs-init : goal.instrs-init
instrs-init c = lists-none c.args.view c.args.definitions.now c.args.readings.now.items

pub instrs-preserved : goal.instrs-preserved
instrs-preserved c =
    lists-step c.args.view c.args.definitions.now keyed_tied_uses c.args.instrs.now c.instrs.instr-index c.instr-item.result c.get.result.now
    c.args.readings.now.items c.instrs.readings.items c.add_tied.new.readings.items
    c.instrs-test.true c.instr-item.is c.get.ensures c.instrs.invariant c.in_ok-add_tied.ensures

pub returns : goal.returns
returns c = lists-all c.args.view c.args.definitions.now keyed_tied_uses c.args.instrs.now c.instrs.instr-index c.args.readings.now.items c.instrs.readings.items (omega arith) c.instrs.invariant
