use Rattle.std.proofs.Common.{◌∙◌, arith}
use Rattle.slot_index.proofs.Kept.{ordered_distinct, renewed}
use Rattle.slot_index.specs.declared.TheConstants.{SPACING}
use Rattle.slot_index.proofs.Slots.insert_and_renew.Goals as goal

pub number_all-requires : goal.number_all-requires
number_all-requires c =
    ordered_distinct _ _ c.args.self.now _ c.args.after c.args.id c.self.invariant c.self.view_is c.requires.absent (c.as_slice.ensures.value ∙ c.in_ok-order.ensures)

pub write_numbers-requires : goal.write_numbers-requires
write_numbers-requires c =
    (renewed SPACING _ c.make_cell.new.numbers.items _ c.args.self.now _ c.as_slice.result.now c.args.after c.args.id (omega arith) c.self.invariant c.self.view_is c.requires.absent c.make_cell.ensures.same c.in_ok-make_cell.ensures.room (c.as_slice.ensures.value ∙ c.in_ok-order.ensures) c.in_ok-id_by_number.ensures).1

pub invariant_of-self-2 : goal.invariant_of-self-2
invariant_of-self-2 c =
    rw c.write_numbers.ensures (renewed SPACING _ c.make_cell.new.numbers.items _ c.args.self.now _ c.as_slice.result.now c.args.after c.args.id (omega arith) c.self.invariant c.self.view_is c.requires.absent c.make_cell.ensures.same c.in_ok-make_cell.ensures.room (c.as_slice.ensures.value ∙ c.in_ok-order.ensures) c.in_ok-id_by_number.ensures).2

pub returns-clause-ok : goal.returns-clause-ok
returns-clause-ok c =
    (renewed SPACING _ c.make_cell.new.numbers.items _ c.args.self.now _ c.as_slice.result.now c.args.after c.args.id (omega arith) c.self.invariant c.self.view_is c.requires.absent c.make_cell.ensures.same c.in_ok-make_cell.ensures.room (c.as_slice.ensures.value ∙ c.in_ok-order.ensures) c.in_ok-id_by_number.ensures).0

pub returns-clause-numbered : goal.returns-clause-numbered
returns-clause-numbered c =
    (renewed SPACING _ c.make_cell.new.numbers.items _ c.args.self.now _ c.as_slice.result.now c.args.after c.args.id (omega arith) c.self.invariant c.self.view_is c.requires.absent c.make_cell.ensures.same c.in_ok-make_cell.ensures.room (c.as_slice.ensures.value ∙ c.in_ok-order.ensures) c.in_ok-id_by_number.ensures).2.numbered
