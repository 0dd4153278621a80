use Rattle.std.proofs.Common.{arith, refl, sym, ◌∙◌, append-nil}
use Rattle.slot_index.specs.Order.{ids}
use Rattle.live_lanes.proofs.Homes.{settles-none, settles-more, settles-whole}
use Rattle.live_lanes.proofs.Ordered.{next-new, put-more, put-all}
use Rattle.live_lanes.proofs.order.Order.add_instrs.Goals as goal

pub instrs-init : goal.instrs-init
instrs-init c = record { positions = refl; ids = λ single last. (sym (append-nil (ids c.args.self.now.slots)), last); homes = λ single last. settles-none c.args.self.now.block_of.items c.args.position; numbered = λ n. n }

pub instrs-preserved : goal.instrs-preserved
instrs-preserved c = record {
  positions = c.add_instr.ensures.positions ∙ c.instrs.invariant.positions;
  ids = λ single last.
      let so = c.instrs.invariant.ids single last in
      put-more c.instrs.self.slots c.add_instr.new.self.slots (ids c.args.self.now.slots) c.args.instrs.now c.instrs.instr-index c.get-instr.result.now c.instrs.after (omega arith) (rw c.get-instr.ensures c.instr-item.is) single so.0 so.1 c.in_ok-add_instr.ensures.ids;
  homes = λ single last.
      let so = c.instrs.invariant.ids single last in
      settles-more c.args.self.now.block_of.items c.instrs.self.block_of.items c.add_instr.new.self.block_of.items c.args.instrs.now c.instrs.instr-index c.get-instr.result.now c.args.position (omega arith) (rw c.get-instr.ensures c.instr-item.is) (c.instrs.invariant.homes single last) (c.in_ok-add_instr.ensures.homes (next-new c.instrs.self.slots (ids c.args.self.now.slots) c.args.instrs.now c.instrs.instr-index c.get-instr.result.now (omega arith) (rw c.get-instr.ensures c.instr-item.is) single so.0));
  numbered = λ n. c.add_instr.ensures.numbered (c.instrs.invariant.numbered n);
}

pub returns-clause-ids : goal.returns-clause-ids
returns-clause-ids c = λ single last.
    let so = c.instrs.invariant.ids single last in
    (so.0 ∙ put-all (ids c.args.self.now.slots) c.args.instrs.now c.instrs.instr-index (omega arith), so.1)

pub returns-clause-homes : goal.returns-clause-homes
returns-clause-homes c = λ single last. settles-whole c.args.self.now.block_of.items c.instrs.self.block_of.items c.args.instrs.now c.instrs.instr-index c.args.position (omega arith) (c.instrs.invariant.homes single last)
