use Rattle.std.proofs.Common.{◌≡◌, ◌++◌, take}
use Rattle.slot_index.specs.Order.{ids, IsNumbered}
use Rattle.live_lanes.specs.Ordered.{ids_of, last_id, AreSingle, Settles}
use Rattle.live_lanes.proofs.order.Order.add_instrs.Given as goal

abbrev pub invariant-instrs : goal.invariant-instrs
invariant-instrs l = record {
  positions : l.self.positions ≡ l.fn.self.positions;
  homes : AreSingle (ids l.fn.self.slots ++ ids_of l.instrs) → l.fn.last ≡ last_id (ids l.fn.self.slots) → Settles l.fn.self.block_of.items l.self.block_of.items (ids_of (take l.instr-index l.instrs)) l.position;
  ids : AreSingle (ids l.fn.self.slots ++ ids_of l.instrs) → l.fn.last ≡ last_id (ids l.fn.self.slots) → (ids l.self.slots ≡ ids l.fn.self.slots ++ ids_of (take l.instr-index l.instrs)) × (l.after ≡ last_id (ids l.self.slots));
  numbered : IsNumbered l.fn.self.slots → IsNumbered l.self.slots;
}
