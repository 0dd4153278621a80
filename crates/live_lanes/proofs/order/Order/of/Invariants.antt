use Rattle.std.proofs.Common.{◌≡◌, ℕ, take}
use Rattle.std.specs.Ordering.{nat_cmp}
use Rattle.std.specs.BTreeMap.{get}
use Rattle.slot_index.specs.Order.{ids, IsNumbered}
use Rattle.live_lanes.specs.Ordered.{all_ids, last_id, place_of, AreSingle}
use Rattle.live_lanes.proofs.Homes.{SomeHomes}
use Rattle.live_lanes.proofs.order.Order.of.Given as goal

abbrev pub invariant-blocks-2 : goal.invariant-blocks-2
invariant-blocks-2 l = record {
  positions : (n : ℕ) → get nat_cmp l.order.positions n ≡ place_of n (take l.position l.func.blocks);
  ids : AreSingle (all_ids l.func.blocks) → (ids l.order.slots ≡ all_ids (take l.position l.func.blocks)) × (l.last ≡ last_id (ids l.order.slots));
  homes : AreSingle (all_ids l.func.blocks) → SomeHomes l.func.blocks l.order.block_of.items l.position l.func.next_id;
  numbered : IsNumbered l.order.slots;
}
