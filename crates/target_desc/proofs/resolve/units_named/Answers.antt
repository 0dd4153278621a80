use Rattle.std.proofs.Common.{arith}
use Rattle.target_desc.specs.Resolving.{unit_named, units_named}
use Rattle.target_desc.proofs.Lists.{loop_stops, loop_goes, loop_ends, reads_units}
use Rattle.target_desc.proofs.resolve.units_named.Goals as goal

pub returns-in-None : goal.returns-in-None
returns-in-None c =
    loop_stops (unit_named c.args.names.now) (units_named c.args.names.now) (reads_units c.args.names.now) c.loop-word.made c.args.words.now c.loop-word.word-index c.word-item.result c.loop-word.invariant (omega arith) c.word-item.is (rw c.as_slice.ensures at c.in-None.ensures)

pub loop-word-preserved : goal.loop-word-preserved
loop-word-preserved c =
    loop_goes (unit_named c.args.names.now) (units_named c.args.names.now) (reads_units c.args.names.now) c.loop-word.made _ c.args.words.now c.loop-word.word-index c.word-item.result _ c.loop-word.invariant (omega arith) c.word-item.is (rw c.as_slice.ensures at c.in-Some.ensures) c.in_ok-push-in-Some.ensures.ok

pub returns : goal.returns
returns c = loop_ends (unit_named c.args.names.now) (units_named c.args.names.now) (reads_units c.args.names.now) c.loop-word.made c.args.words.now c.loop-word.word-index c.loop-word.invariant (omega arith)
