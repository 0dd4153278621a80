use Rattle.std.proofs.Common.{arith}
use Rattle.target_desc.specs.Resolving.{reg_named, regs_named}
use Rattle.target_desc.proofs.Lists.{loop_stops, loop_goes, loop_ends, reads_regs}
use Rattle.target_desc.proofs.resolve.regs_named.Goals as goal

pub returns-in-None : goal.returns-in-None
returns-in-None c =
    loop_stops (reg_named c.args.names.now) (regs_named c.args.names.now) (reads_regs c.args.names.now) c.loop-word.made c.args.words.now c.loop-word.word-index c.word-item.result c.loop-word.invariant (omega arith) c.word-item.is (rw c.as_slice.ensures at c.in-None.ensures)

pub loop-word-preserved : goal.loop-word-preserved
loop-word-preserved c =
    loop_goes (reg_named c.args.names.now) (regs_named c.args.names.now) (reads_regs c.args.names.now) c.loop-word.made _ c.args.words.now c.loop-word.word-index c.word-item.result _ c.loop-word.invariant (omega arith) c.word-item.is (rw c.as_slice.ensures at c.in-Some.ensures) c.in_ok-push-in-Some.ensures.ok

pub returns : goal.returns
returns c = loop_ends (reg_named c.args.names.now) (regs_named c.args.names.now) (reads_regs c.args.names.now) c.loop-word.made c.args.words.now c.loop-word.word-index c.loop-word.invariant (omega arith)
