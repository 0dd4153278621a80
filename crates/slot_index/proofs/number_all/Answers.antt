use Rattle.std.proofs.Common.{refl, arith}
use Rattle.slot_index.specs.declared.TheConstants.{SPACING}
use Rattle.slot_index.proofs.Room.{length-le_from_distinct}
use Rattle.slot_index.proofs.Renewal.{numbered_below, numbered_more}
use Rattle.slot_index.proofs.number_all.Goals as goal

pub overflow_add-number : goal.overflow_add-number
overflow_add-number c = omega (arith, length-le_from_distinct c.args.order.now c.requires c.type_inv.order)

pub ids-preserved : goal.ids-preserved
ids-preserved c =
    let i = c.ids.invariant in
    let made = c.in_ok-insert.ensures.entries in
    record {
      number_is = omega arith;
      below = numbered_below SPACING c.ids.number _ _ _ (omega arith) i.below made;
      so_far = numbered_more SPACING c.ids.number c.ids.id-index _ c.args.order.now _ _ _ (omega arith) refl (omega arith) i.below made i.so_far;
    }
