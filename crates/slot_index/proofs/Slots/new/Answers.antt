use Rattle.slot_index.proofs.Kept.{indexed_empty}
use Rattle.slot_index.proofs.Slots.new.Goals as goal

pub invariant_of-result : goal.invariant_of-result
invariant_of-result c = rw (c.new.ensures.items, c.new-2.ensures.empty) indexed_empty

pub returns-clause-numbered : goal.returns-clause-numbered
returns-clause-numbered c = rw c.new-2.ensures.empty indexed_empty.numbered
