use Rattle.std.proofs.Common.{length-append, arith}
use Rattle.interference.specs.Parts.{has_parts}
use Rattle.interference.proofs.Empty.{none_more, no_parts}
use Rattle.interference.proofs.unit_table.empty_unit.Goals as goal

pub each-preserved : goal.each-preserved
each-preserved c = record {
  none = none_more has_parts c.each.lists.items c.push.new.self.items c.new.result c.in_ok-push.ensures.items c.each.invariant.none (no_parts c.new.result c.new.ensures);
  count = grind (arith, length-append, c.in_ok-push.ensures.items, c.each.invariant.count);
}
