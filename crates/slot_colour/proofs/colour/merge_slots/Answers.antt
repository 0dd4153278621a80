use Rattle.slot_colour.proofs.Renaming.{function-renamed}
use Rattle.slot_colour.proofs.colour.merge_slots.Goals as goal

pub invariant_of-result : goal.invariant_of-result
invariant_of-result c = rw c.rename_blocks.ensures (function-renamed c.args.taken.now c.f.inside.next_id c.f.inside.blocks c.f.invariant)
