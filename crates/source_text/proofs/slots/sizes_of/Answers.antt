use Rattle.std.proofs.Common.{arith}
use Rattle.source_text.specs.Slots.{size_of}
use Rattle.source_text.proofs.Ends.{made_more}
use Rattle.source_text.proofs.slots.sizes_of.Goals as goal

pub each-preserved : goal.each-preserved
each-preserved c =
    made_more (size_of c.args.target.now) c.each.made.items c.push.new.self.items _ c.args.classes.now c.each.class-index c.class-item.result c.in_ok-size_of.field-0 (omega arith) c.class-item.is c.in_ok-size_of.ensures c.in_ok-push.ensures.items c.each.invariant
