use Rattle.std.proofs.Common.{arith, length, min}
use Rattle.interference.specs.Clashes.{register_in}
use Rattle.rewriter.proofs.Rewritten.{each_more, each_all}
use Rattle.rewriter.proofs.allocated.registers_of.Goals as goal

pub each-preserved : goal.each-preserved
each-preserved c =
    let m = c.args.m.now in
    each_more (register_in m.registers.items) (min (length m.live.func.classes) 4294967296) c.each.v c.each.made.items _ _ c.register_of.result (omega arith) c.register_of.ensures c.in_ok-push.ensures.items c.each.invariant

pub returns : goal.returns
returns c =
    let m = c.args.m.now in
    each_all (register_in m.registers.items) (min (length m.live.func.classes) 4294967296) c.each.v c.each.made.items _ (omega arith) c.each.invariant
