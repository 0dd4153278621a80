use Rattle.std.proofs.Common.{length-append, arith}
use Rattle.interference.specs.Parts.{has_lists}
use Rattle.interference.specs.Wide.{is_wide}
use Rattle.interference.proofs.Empty.{none_more}
use Rattle.interference.proofs.NewLists.{all_more}
use Rattle.interference.proofs.unit_table.UnitTable.new.Goals as goal

pub each-preserved : goal.each-preserved
each-preserved c =
    let r = c.in_ok-empty_unit.field-0 in
    record {
      none = none_more has_lists c.each.all.items c.push.new.self.items r c.in_ok-push.ensures.items c.each.invariant.none c.in_ok-empty_unit.ensures.none;
      count = grind (arith, length-append, c.in_ok-push.ensures.items, c.each.invariant.count);
      wide = all_more (is_wide c.args.blocks) c.each.all.items c.push.new.self.items r c.in_ok-push.ensures.items c.each.invariant.wide c.in_ok-empty_unit.ensures.wide;
    }
