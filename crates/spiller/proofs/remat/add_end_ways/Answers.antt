use Rattle.std.proofs.Common.{[], ◌∷◌, arith}
use Rattle.spiller.specs.Listed.{keyed_way}
use Rattle.spiller.specs.Views.{way_of}
use Rattle.spiller.proofs.ListSteps.{lists-all, lists-got, lists-none}
use Rattle.spiller.proofs.remat.add_end_ways.Goals as goal

pub ways-init : goal.ways-init
ways-init c = λ forms. lists-none c.args.view c.args.definitions.now c.args.readings.now.items

pub ways-preserved : goal.ways-preserved
ways-preserved c = λ forms.
    lists-got c.args.view c.args.definitions.now (λ s w. keyed_way s c.args.instrs.now (way_of c.args.view.v w) ∷ []) c.args.ways.now c.ways.way-index _
    c.args.readings.now.items c.ways.readings.items c.add_end_way.new.readings.items c.ways-test.true (c.ways.invariant forms) (c.in_ok-add_end_way.ensures forms)

pub returns : goal.returns
returns c = λ forms.
    lists-all c.args.view c.args.definitions.now (λ s w. keyed_way s c.args.instrs.now (way_of c.args.view.v w) ∷ []) c.args.ways.now c.ways.way-index c.args.readings.now.items c.ways.readings.items (omega arith) (c.ways.invariant forms)
