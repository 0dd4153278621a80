use Rattle.std.proofs.Common.{[], arith, subst, sym}
use Rattle.spiller.specs.Listed.{Lists, keyed_by, keyed_readings, place_by}
use Rattle.spiller.proofs.ListSteps.{lists-all, lists-none}
use Rattle.spiller.proofs.ReadingsListed.{touched-step}
use Rattle.spiller.proofs.remat.readings_of.Goals as goal

pub touched-init : goal.touched-init
touched-init c = λ may are. subst (Lists c.args.view c.args.definitions.now (keyed_by c.args.view []) []) (sym c.new-readings.ensures.items) (lists-none c.args.view c.args.definitions.now [])

pub touched-preserved : goal.touched-preserved
touched-preserved c = λ may are.
    touched-step c.args.view may c.args.touched.now are c.args.definitions.now c.touched.id-index _ c.touched.readings.items c.add_touched.new.readings.items c.touched-test.true c.in_ok-add_touched.ensures (c.touched.invariant may are)

pub returns : goal.returns
returns c = λ may are.
    lists-all c.args.view c.args.definitions.now (λ s n. keyed_readings s (place_by c.args.view n)) c.args.touched.now c.touched.id-index [] c.touched.readings.items (omega arith) (c.touched.invariant may are)
