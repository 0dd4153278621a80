use Rattle.slot_index.proofs.Kept.{inserted}
use Rattle.slot_index.proofs.Slots.insert_after.Goals as goal

pub invariant_of-self-2 : goal.invariant_of-self-2
invariant_of-self-2 c =
    (inserted _ c.make_cell.new.numbers.items _ c.args.self.now _ c.args.after c.in-Some.number c.args.id c.self.invariant c.self.view_is c.requires.known c.requires.absent c.in-Some.ensures c.make_cell.ensures.same c.in_ok-make_cell.ensures.room c.in_ok-insert.ensures.entries c.insert.ensures.ordered).1

pub returns-clause-ok : goal.returns-clause-ok
returns-clause-ok c =
    (inserted _ c.make_cell.new.numbers.items _ c.args.self.now _ c.args.after c.in-Some.number c.args.id c.self.invariant c.self.view_is c.requires.known c.requires.absent c.in-Some.ensures c.make_cell.ensures.same c.in_ok-make_cell.ensures.room c.in_ok-insert.ensures.entries c.insert.ensures.ordered).0

pub returns-clause-numbered : goal.returns-clause-numbered
returns-clause-numbered c =
    (inserted _ c.make_cell.new.numbers.items _ c.args.self.now _ c.args.after c.in-Some.number c.args.id c.self.invariant c.self.view_is c.requires.known c.requires.absent c.in-Some.ensures c.make_cell.ensures.same c.in_ok-make_cell.ensures.room c.in_ok-insert.ensures.entries c.insert.ensures.ordered).1.numbered
